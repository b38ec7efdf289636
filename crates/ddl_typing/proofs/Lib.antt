pub mod TypingRows
