-- blocks and sections by their parts
mod Trees
