pub mod Ends
pub mod FocusView
pub mod FrameView
pub mod Gives
pub mod Heights
pub mod StackView
