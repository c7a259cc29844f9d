-- What is true of a cursor as its shrink starts, as others add records, as it goes down, skips and moves, and where it stops.
use Rattle.std.specs.Prelude.{◌≡◌, ℕ, ◌≤◌, false, List, [], ◌∷◌, length}
use Rattle.seg_words.specs.Types.{Shape}
use Rattle.redo_model.specs.Records.{Record}
use Rattle.redo_model.specs.Model.{Extends}
use Rattle.redo_laws.specs.Since.{any_since}
use Rattle.shrink_laws.specs.declared.skip.Skip.{Skip}
use Rattle.shrink_laws.specs.Grown.{lowers}
use Rattle.shrink_laws.specs.Stops.{last_formatted, StopsAt, StopsAtBottom, SkipsStand}
use Rattle.shrink_laws.specs.Cursor.{CursorStands, Cleared, StepSkips, StepMoves, StepStops, skip_of}

abbrev pub CursorStarts : Type 0
CursorStarts = (sh : Shape) (B : List Record) (o : ℕ) → CursorStands sh B B o [] (last_formatted sh B o)

abbrev pub CursorStays : Type 0
CursorStays = (sh : Shape) (B R : List Record) (o : ℕ) (skips : List Skip) (cursor : ℕ) (r : Record) → lowers o r ≡ false → CursorStands sh B R o skips cursor → CursorStands sh B (r ∷ R) o skips cursor

abbrev pub CursorStaysSince : Type 0
CursorStaysSince = (sh : Shape) (B Q R : List Record) (o : ℕ) (skips : List Skip) (cursor : ℕ) → Extends Q R → any_since (lowers o) (length Q) R ≡ false → CursorStands sh B Q o skips cursor → CursorStands sh B R o skips cursor

abbrev pub CursorGoesDown : Type 0
CursorGoesDown = (sh : Shape) (B R : List Record) (o : ℕ) (skips : List Skip) (cursor n : ℕ) → n ≤ cursor → Cleared sh R o skips n cursor → CursorStands sh B R o skips cursor → CursorStands sh B R o skips n

-- a skip is kept, and stands
pub record CursorSkips (sh : Shape) (B R : List Record) (o : ℕ) (skips : List Skip) (place d k t : ℕ) : Type 0 where
  pub cursor : CursorStands sh B R o (skip_of R d k t ∷ skips) place
  pub told : SkipsStand B R skips → SkipsStand B R (skip_of R d k t ∷ skips)

abbrev pub SkippingKeeps : Type 0
SkippingKeeps = (sh : Shape) (B R : List Record) (o : ℕ) (skips : List Skip) (cursor place d k t : ℕ) → StepSkips sh R o skips cursor place d k t → CursorStands sh B R o skips cursor → CursorSkips sh B R o skips place d k t

abbrev pub MovingKeeps : Type 0
MovingKeeps = (sh : Shape) (B R R' : List Record) (o : ℕ) (skips : List Skip) (cursor place d k : ℕ) → StepMoves sh R R' o skips cursor place d k → CursorStands sh B R o skips cursor → CursorStands sh B R' o skips place

abbrev pub SkipsAreKept : Type 0
SkipsAreKept = (B R : List Record) (skips : List Skip) (r : Record) → SkipsStand B R skips → SkipsStand B (r ∷ R) skips

abbrev pub StopsRightly : Type 0
StopsRightly = (sh : Shape) (B R : List Record) (o : ℕ) (skips : List Skip) (cursor place d k : ℕ) → StepStops sh R o skips cursor place d k → CursorStands sh B R o skips cursor → StopsAt sh B R o skips d k

abbrev pub StopsRightlyAtBottom : Type 0
StopsRightlyAtBottom = (sh : Shape) (B R : List Record) (o : ℕ) (skips : List Skip) (cursor : ℕ) → Cleared sh R o skips 0 cursor → CursorStands sh B R o skips cursor → StopsAtBottom sh B R o skips
