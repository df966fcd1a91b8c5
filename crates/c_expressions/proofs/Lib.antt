-- walks along lists
mod Running
-- members of one type
mod Members
