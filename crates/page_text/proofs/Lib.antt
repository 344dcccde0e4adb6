mod AttributeFacts
mod CellFacts
mod FigureFacts
mod HarmlessFacts
mod ShownFacts
mod StyledFacts
