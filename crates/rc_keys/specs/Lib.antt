-- tokens: the pieces of a text, what they say, and how the lexer comes to them
pub mod Pieces
pub mod Lexemes
pub mod TokenLaws
pub mod Tokens
pub mod Lexing
pub mod Parts
-- keywords, names of codes, and things with names
pub mod KeyWords
pub mod Names
pub mod Tables
-- grammars: what their rows read, and how a format is written down
pub mod Course
pub mod Statements
pub mod Phrases
pub mod Slices
-- what private contracts alone speak of
pub mod Inner
