-- The blocks whose pages a record changes.
use Rattle.std.specs.Prelude.{ℕ, ◌-◌, ◌%◌, ◌+◌, min, max, List, [], ◌∷◌, ◌++◌, Option, Some, None}
use Rattle.seg_words.specs.Types.{Shape, first_block, OWN_BLOCKS}
use Rattle.redo_model.specs.Records.{Record, Table, Movement, Extend, FormatBlock, Class, Advance, Lower, Begin, Reuse, Insert, Update, Migrate, Return, Delete, Commit, Back, Ended, Move, Clean, RowBody, RowPart, BackPart}

abbrev pub blocks_of : List RowPart → List ℕ
blocks_of [] = []
blocks_of (p ∷ ps) = p.dba ∷ blocks_of ps

abbrev pub back_blocks : List BackPart → List ℕ
back_blocks [] = []
back_blocks (p ∷ ps) = p.dba ∷ back_blocks ps

abbrev pub touched_by_row : RowBody → List ℕ
touched_by_row w = 1 ∷ w.undo.block ∷ blocks_of w.parts

-- the first block of the extent in which a block stands, where its first level stands
abbrev pub first_of : Shape → ℕ → ℕ
first_of sh b = b - (b - (OWN_BLOCKS + sh.undo)) % max sh.extent 1

-- those that are there
abbrev pub those : List (Option ℕ) → List ℕ
those [] = []
those (None ∷ os) = those os
those (Some b ∷ os) = b ∷ those os

-- of the catalogue (block 2), the space bitmap (block 3) and headers
abbrev pub touched_heads : Record → List ℕ
touched_heads (Table t) = 2 ∷ t.header ∷ []
touched_heads (Movement m) = m.header ∷ []
touched_heads (Extend e) = 3 ∷ e.header ∷ []
touched_heads (Advance a) = a.header ∷ []
touched_heads (Lower l) = 3 ∷ l.header ∷ []
touched_heads _ = []

-- Of row blocks, undo blocks, the transaction table (block 1) and bitmaps. A Move leaves the transaction table, a Back the
-- undo block, a Class the block itself.
abbrev pub touched_sorts : Shape → Record → List ℕ
touched_sorts sh (Table t) = []
touched_sorts sh (Movement m) = []
touched_sorts sh (Extend e) = e.l2 ∷ e.l3 ∷ min (first_block sh e.extent) 4294967295 ∷ []
touched_sorts sh (FormatBlock f) = f.dba ∷ f.l2 ∷ f.l3 ∷ first_of sh f.dba ∷ []
touched_sorts sh (Class k) = k.l2 ∷ k.l3 ∷ first_of sh k.dba ∷ []
touched_sorts sh (Advance a) = []
touched_sorts sh (Lower l) = l.l3 ∷ those l.l2
touched_sorts sh (Begin g) = 1 ∷ []
touched_sorts sh (Reuse q) = 1 ∷ q.block ∷ []
touched_sorts sh (Insert w) = touched_by_row w
touched_sorts sh (Update w) = touched_by_row w
touched_sorts sh (Migrate w) = touched_by_row w
touched_sorts sh (Return w) = touched_by_row w
touched_sorts sh (Delete w) = touched_by_row w
touched_sorts sh (Commit c) = 1 ∷ []
touched_sorts sh (Back k) = 1 ∷ back_blocks k.parts
touched_sorts sh (Ended e) = 1 ∷ []
touched_sorts sh (Move m) = m.undo.block ∷ blocks_of m.parts
touched_sorts sh (Clean c) = c.dba ∷ []

abbrev pub touched : Shape → Record → List ℕ
touched sh r = touched_heads r ++ touched_sorts sh r
