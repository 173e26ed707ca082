-- Laws of the arithmetic and of the decoding: how a computed test becomes a law, then flags, carries, bits, DAA and the flags column by forms.
pub mod Tested
pub mod Choices
pub mod Flags
pub mod Carries
pub mod WordCarries
pub mod Logic
pub mod Shifts
pub mod OneBit
pub mod SingleBits
pub mod Decimal
pub mod FlagColumns
pub mod FlagLaws
pub mod Illegal
