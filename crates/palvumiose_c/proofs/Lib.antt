mod Codes
mod KnownText
mod Words
