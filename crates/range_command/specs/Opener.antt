-- What opening files comes to.
use Rattle.std.specs.Prelude.{◌≡◌, ◌⊎◌, ⊤, ℕ, List, [], ◌∷◌, Option, None, Some, Result, Ok, Err, String, string_bytes}
use Rattle.std.specs.Global.{Global}
use Rattle.range_command.specs.declared.opener.OpenFault.{OpenFault}
use Rattle.range_command.specs.declared.opener.OpenFault.TheVariants.{OutOfMemory, Refused}

-- what a path comes to, where that is known: the bytes of its file, or in words why it cannot be opened
abbrev pub Found : Type 0
Found = Option (Result (List ℕ) (List ℕ))

-- the bytes of the file of a path, where they are known
abbrev pub bytes_in : Found → Option (List ℕ)
bytes_in None = None
bytes_in (Some (Ok bytes)) = Some bytes
bytes_in (Some (Err reason)) = None

-- the path may be that of a file that can be opened
abbrev pub MayOpen : Found → Type 0
MayOpen None = ⊤
MayOpen (Some (Ok bytes)) = ⊤
MayOpen (Some (Err reason)) = ⊥

-- the path may be that of a file that cannot be opened, for this reason
abbrev pub MayRefuse : Found → List ℕ → Type 0
MayRefuse None reason = ⊤
MayRefuse (Some (Ok bytes)) reason = ⊥
MayRefuse (Some (Err words)) reason = reason ≡ words

-- a file was opened which tells these bytes, if it tells any
abbrev pub IsOpened : Found → Option (List ℕ) → Type 0
IsOpened found told = MayOpen found × (told ≡ bytes_in found)

-- no file was opened: memory ran out, or the path may be that of a file that cannot be opened, for this reason
abbrev pub IsNotOpened : Found → OpenFault → Type 0
IsNotOpened found OutOfMemory = ⊤
IsNotOpened found (Refused reason) = MayRefuse found (string_bytes reason)

-- of the files this path is the first that cannot be opened, and this is why
abbrev pub IsFirstRefused : (List ℕ → Found) → List (String Global) → List ℕ → List ℕ → Type 0
IsFirstRefused find [] path reason = ⊥
IsFirstRefused find (file ∷ files) path reason =
    ((path ≡ string_bytes file) × MayRefuse (find (string_bytes file)) reason)
    ⊎ (MayOpen (find (string_bytes file)) × IsFirstRefused find files path reason)

-- each of the files may be opened
abbrev pub AllMayOpen : (List ℕ → Found) → List (String Global) → Type 0
AllMayOpen find [] = ⊤
AllMayOpen find (file ∷ files) = MayOpen (find (string_bytes file)) × AllMayOpen find files
