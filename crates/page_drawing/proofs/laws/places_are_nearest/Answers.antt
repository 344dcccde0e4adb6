use Rattle.page_drawing.proofs.PlaceFacts.{nearest}
use Rattle.page_drawing.proofs.laws.places_are_nearest.Goals as goal

pub returns : goal.returns
returns c = nearest
