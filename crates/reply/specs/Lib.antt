-- What each call replies for every input, and its contract: the answer, and what every lent buffer then holds.
pub mod definitions
