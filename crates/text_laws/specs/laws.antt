-- bytes and integers
pub mod Lists
pub mod Bytes
pub mod Numerals
pub mod Prefixes
pub mod Answer
pub mod Words
-- the tokens are those that the text is parted into
pub mod Tokens
-- a text reads as a term of a dialect exactly when its tokens are the term's (Reading); where and why it is refused (Refused, Exactly)
pub mod Sofar
pub mod Through
pub mod Reading
pub mod Begun
pub mod Open
pub mod Places
pub mod Refused
pub mod Exactly
-- the measures of every subterm (Measured); a text is accepted, or refused, exactly when .. (Accepted; Ordinary: document 01's own terms)
pub mod Measured
pub mod Accepted
pub mod Ordinary
pub mod Rows
-- the same for form texts (FormReading, FormRefused, FormAccepted), and the places of nodes (FormNodes)
pub mod FormSofar
pub mod FormThrough
pub mod FormReading
pub mod FormNormal
pub mod FormAccepted
pub mod FormBegun
pub mod FormOpen
pub mod FormPlaces
pub mod FormRefused
pub mod FormExactly
pub mod FormNodes
-- the form of an accepted term has a text that is accepted
pub mod Length
pub mod Result
-- for programs
pub mod Picks
pub mod FormKinds
pub mod FormWalk
pub mod Descent
pub mod FormDescent
