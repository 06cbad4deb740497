-- The three demands on which the whole is judged: with the definitions of horner, text, reply, book and panel this is what a reader needs.
-- Demand 1: no two answers meet a contract; which refusal comes when, of the texts, in the calls' replies and, in proofs/Answers, by their
-- contracts; what the tables hold. (Order has the definitions.)
pub mod One
pub mod Order
pub mod Texts
pub mod Refusals
pub mod Tables
-- Demands 2 and 3: terms and their forms, two terms, counters; the one normal form; tokens; a form's own measures.
pub mod Demands
pub mod Normal
pub mod Tokens
pub mod Measures
-- The operations on forms: what they reply, what they write, how long it is.
pub mod Operations
pub mod Results
pub mod Longest
-- Books: which bytes are one, how they are refused, and each entry's answer.
pub mod Books
-- What the proofs of these rest on.
pub mod laws
