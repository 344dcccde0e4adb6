pub mod LedgerFacts
pub mod Places
pub mod WordFacts
