-- What each call's answer is, and that it refuses exactly when its line of the table says so; and from C.
pub mod Answers
