mod AnimalFacts
mod DoubleFacts
mod LawFacts
mod NumberFacts
mod TableFacts
