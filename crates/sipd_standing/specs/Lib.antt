pub mod Program
pub mod Standing
pub mod PhoneCells
pub mod PhoneProgram
pub mod PhoneTable
