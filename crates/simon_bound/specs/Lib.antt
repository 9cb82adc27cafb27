pub mod MemberLists
pub mod Steps
pub mod Heights
