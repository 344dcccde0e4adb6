-- What is known of the results of files.
use Rattle.std.specs.Prelude.{ℕ, List, Option}
use Rattle.std.specs.declared.clone.Clone.{Ghosts}
use Rattle.range_lemmas.specs.Pairs.{Paired}
use Rattle.range_fixes.specs.Reading.{Reading}
use Rattle.range_collect.specs.Follow.{IsFollowedAs}
use Rattle.range_collect.specs.declared.followed.Followed.{Followed}

-- this is the result of the file with this number, followed in blocks of this size; where its source tells its bytes,
-- this is what they say
abbrev pub IsFollowed : {A : Type 0} {clone : Ghosts A} → Option Reading → ℕ → ℕ → Followed A clone → Type 0
IsFollowed source number size f = IsFollowedAs source number size f.feeder f.read f.estimator f.marked

-- the results of all files, one for each source and in their order, followed in blocks of this size; the first file has
-- number 0
abbrev pub AreFollowed : {A : Type 0} {clone : Ghosts A} → ℕ → List (Option Reading) → List (Followed A clone) → Type 0
AreFollowed size sources followed = Paired (λ file source f. IsFollowed source file size f) sources followed
