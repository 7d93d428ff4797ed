pub mod Commands
pub mod Groups
pub mod Origins
pub mod Sets
pub mod Used
pub mod Laws
