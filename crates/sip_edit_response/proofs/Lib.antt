pub mod ReplyTexts
pub mod StatusLines
