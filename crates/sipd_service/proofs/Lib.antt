mod Changing
mod GoingOver
mod Printed
mod Turning
