-- What reading the page of a block answers.
use Rattle.std.specs.Prelude.{◌≡◌, ℕ, ◌+◌, ◌*◌, ◌≤◌, true, List, length, Option, Some, None, Result, Ok, Err, IsOk}
use Rattle.seg_words.specs.Types.{Shape, BLOCK_SIZE}
use Rattle.page_store.specs.declared.fault.PageFault.{PageFault}
use Rattle.page_store.specs.declared.fault.PageFault.TheVariants.{DeviceFault, BadPage, NoMemory}
use Rattle.page_store.specs.Types.{block}
use Rattle.page_set.specs.Among.{is_among}
use Rattle.buffer_pool.specs.declared.frame.Frame.{Frame}
use Rattle.buffer_pool.specs.Frames.{frame_at, has_page, IsSpelled}

-- the data file has the whole block d, whose bytes spell a page of it
abbrev pub IsSpelledIn : ℕ → List ℕ → Type 0
IsSpelledIn d file = (BLOCK_SIZE * d + BLOCK_SIZE ≤ length file) × IsSpelled d (block d file)

-- What a call that reads the page of block d answered. `BadPage` names the block: it has no page, or its bytes spell none.
abbrev pub IsReading : {A : Type 0} → Shape → ℕ → Type 0 → (A → Type 0) → Result A PageFault → Type 0
IsReading sh d Spelled P (Ok answer) = (has_page sh d ≡ true) × Spelled × P answer
IsReading sh d Spelled P (Err DeviceFault) = Unit {0}
IsReading sh d Spelled P (Err (BadPage b)) = (b ≡ d) × (has_page sh d ≡ true → Spelled → ⊥)
IsReading sh d Spelled P (Err NoMemory) = Unit {0}

-- what bringing block d into a frame answered: a block that has one is there, another is read
abbrev pub IsFetching : Shape → ℕ → Type 0 → Option Frame → Result (Unit {0}) PageFault → Type 0
IsFetching sh d Spelled (Some f) result = IsOk result
IsFetching sh d Spelled None (Ok done) = (has_page sh d ≡ true) × Spelled
IsFetching sh d Spelled None (Err DeviceFault) = Unit {0}
IsFetching sh d Spelled None (Err (BadPage b)) = (b ≡ d) × (has_page sh d ≡ true → Spelled → ⊥)
IsFetching sh d Spelled None (Err NoMemory) = Unit {0}

-- why these blocks aren't all brought into frames, over a file with these pages
abbrev pub WhyNotFetched : Shape → (ℕ → List ℕ) → List (ℕ × Frame) → List ℕ → PageFault → Type 0
WhyNotFetched sh pages held ds DeviceFault = Unit {0}
WhyNotFetched sh pages held ds (BadPage b) =
    (is_among ds b ≡ true) × ((f : Frame) → frame_at held b ≡ Some f → f.dirty ≡ true → ⊥) × (has_page sh b ≡ true → IsSpelled b (pages b) → ⊥)
WhyNotFetched sh pages held ds NoMemory = Unit {0}
