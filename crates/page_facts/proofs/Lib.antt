mod GrowthFacts
mod IntervalFacts
