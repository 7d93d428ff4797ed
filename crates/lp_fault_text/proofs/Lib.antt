mod Computed
pub mod Leading
pub mod Origins
pub mod Rising
