mod PlaceFacts
mod StepFacts
