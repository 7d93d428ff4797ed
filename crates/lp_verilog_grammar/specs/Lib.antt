pub mod Grammar
pub mod View
pub mod Machine
