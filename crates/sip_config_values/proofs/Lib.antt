pub mod ValueRows
pub mod InOrder
