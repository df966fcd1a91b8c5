-- growth, and what nodes and lists of nodes keep under it
pub mod NodeLaws
