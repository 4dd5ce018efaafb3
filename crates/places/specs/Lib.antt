-- What the rule test and its search for a completion cite.
pub mod Tested
