mod Noted
pub mod Viewed
mod Faults
pub mod Meetings
mod Ends
pub mod Ordered
pub mod Joints
pub mod Flagged
mod Unread
