pub mod Columns
pub mod ErrorLemmas
pub mod GotLines
pub mod LineEnds
pub mod LineLemmas
pub mod PictureLemmas
pub mod ShownLemmas
pub mod Utf16Ends
