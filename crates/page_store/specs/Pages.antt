-- The data file as a map of pages, one for each block outside the double-write area, which is blocks 4 to 36. Block 4 is
-- the area's head: its gate, the number of the copies, their blocks. The copies stand in the blocks behind it. The layout
-- is this engine's own.
use Rattle.std.specs.Prelude.{◌≡◌, ℕ, zero, suc, ◌+◌, ◌*◌, ◌≤◌, ◌==◌, nat_lt, nat_le, Bool, true, not, ◌&&◌, ◌||◌, List, [], ◌∷◌, length, take, drop, slice_index, if◌then◌else◌}
use Rattle.page_store.specs.declared.area.TheConstants.{AREA_END, FIRST_COPY, LAST_COPY, NUMBERS_AT}
use Rattle.seg_words.specs.Types.{w32, list_all, list_any, number_in, is_shape, Shape, BLOCK_SIZE, DOUBLE_WRITE_BLOCK, DOUBLE_WRITE_PAGES}
use Rattle.page_store.specs.declared.page.RawPage.{RawPage}

-- n bytes from a place on
abbrev pub part : ℕ → ℕ → List ℕ → List ℕ
part at n bytes = take n (drop at bytes)

-- what stands in a block
abbrev pub block : ℕ → List ℕ → List ℕ
block b bytes = part (BLOCK_SIZE * b) BLOCK_SIZE bytes

-- the gate of the area
abbrev pub gate : List ℕ → ℕ
gate bytes = slice_index (block DOUBLE_WRITE_BLOCK bytes) 0

-- the block numbers in the head of an area, from the i-th on
abbrev pub numbers : ℕ → ℕ → List ℕ → List ℕ
numbers i zero head = []
numbers i (suc n) head = number_in w32 head (NUMBERS_AT + 4 * i) ∷ numbers (suc i) n head

abbrev pub head_blocks : List ℕ → List ℕ
head_blocks head = numbers 0 (slice_index head 1) head

-- the copies from the i-th on, each with its block
abbrev pub copy : ℕ → List ℕ → RawPage
copy i bytes = record { dba = number_in w32 (block DOUBLE_WRITE_BLOCK bytes) (NUMBERS_AT + 4 * i); bytes = block (FIRST_COPY + i) bytes }

abbrev pub copies : ℕ → ℕ → List ℕ → List RawPage
copies i zero bytes = []
copies i (suc n) bytes = copy i bytes ∷ copies (suc i) n bytes

abbrev pub copies_of : List ℕ → List RawPage
copies_of bytes = copies 0 (slice_index (block DOUBLE_WRITE_BLOCK bytes) 1) bytes

-- the page for a block among some, or else another
abbrev pub page_in : List RawPage → ℕ → List ℕ → List ℕ
page_in [] b page = page
page_in (p ∷ ps) b page = if p.dba == b then p.bytes else page_in ps b page

-- a block's page: its copy where the gate is open and it has one, else what stands in its place
abbrev pub page_of : List ℕ → ℕ → List ℕ
page_of bytes b = if gate bytes == 1 then page_in (copies_of bytes) b (block b bytes) else block b bytes

-- a block of the store outside the area
abbrev pub is_place : Shape → ℕ → Bool
is_place shape b = nat_lt b shape.blocks && (nat_lt b DOUBLE_WRITE_BLOCK || nat_lt LAST_COPY b)

-- no number twice
abbrev pub are_apart : List ℕ → Bool
are_apart [] = true
are_apart (b ∷ bs) = not (list_any (λ d. d == b) bs) && are_apart bs

-- 1 to 32 different blocks of the store outside the area
abbrev pub is_batch : Shape → List ℕ → Bool
is_batch shape blocks = nat_le 1 (length blocks) && (nat_le (length blocks) DOUBLE_WRITE_PAGES && (list_all (is_place shape) blocks && are_apart blocks))

-- The area is there, and where its gate is open its head names the blocks of a batch.
abbrev pub is_sound_area : Shape → List ℕ → Bool
is_sound_area shape bytes = nat_le AREA_END (length bytes) && (not (gate bytes == 1) || is_batch shape (head_blocks (block DOUBLE_WRITE_BLOCK bytes)))

-- an opening has to finish a batch
abbrev pub needs_finish : Shape → List ℕ → Bool
needs_finish shape bytes = is_sound_area shape bytes && (gate bytes == 1)

-- The file of a store of this shape, with these pages.
pub record HasPages (shape : Shape) (pages : ℕ → List ℕ) (bytes : List ℕ) : Type 0 where
  pub within : is_shape shape ≡ true
  pub long : BLOCK_SIZE * shape.blocks ≤ length bytes
  pub area : is_sound_area shape bytes ≡ true
  pub each : (b : ℕ) → is_place shape b ≡ true → page_of bytes b ≡ pages b
