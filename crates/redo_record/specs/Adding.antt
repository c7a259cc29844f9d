-- Adding bytes at the end of others.
use Rattle.std.specs.Prelude.{◌≡◌, List, ℕ, ◌++◌, Result, Ok, Err}
use Rattle.seg_words.specs.Types.{NoMemory}

-- some bytes begin with others
pub record Begins (front bytes : List ℕ) : Type 0 where
  pub more : List ℕ
  pub parts : bytes ≡ front ++ more

-- What a function that adds bytes answers and leaves; without memory it may have added a part of them.
abbrev pub Adds : Result Unit NoMemory → List ℕ → List ℕ → List ℕ → Type 0
Adds (Ok u) old new bytes = new ≡ old ++ bytes
Adds (Err e) old new bytes = Begins old new
