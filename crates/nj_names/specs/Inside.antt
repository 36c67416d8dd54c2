-- How the code meets the definitions beside this directory. No contract of a public call needs these modules.
pub mod NamesHeld
pub mod NumbersHeld
pub mod RoundsHeld
