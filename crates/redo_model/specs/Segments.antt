-- A table's extents, its data blocks in order of position, its marks, and what its records say of it. Oracle Database
-- Concepts, "Logical Storage Structures": a segment is a set of extents; blocks under the low high water mark are
-- formatted, between the marks either, above the high one none. Which blocks are data is this engine's own.
use Rattle.std.specs.Prelude.{◌≡◌, ℕ, zero, suc, ◌+◌, ◌-◌, ◌≤◌, Bool, true, false, cond, not, ◌&&◌, ◌||◌, eqb, ltb, leb, List, [], ◌∷◌, ◌++◌, length, take, Option, Some, None, Contains, ◌*◌}
use Rattle.seg_words.specs.Types.{list_all, position_or_len, Shape, first_block, is_extent, head_blocks, MOST_TABLES, EXTENTS_OF_L2}
use Rattle.redo_model.specs.Records.{Record, Table, Movement, Extend, FormatBlock, Advance, Lower}
use Rattle.redo_model.specs.Blocks.{is_vacant_block}

-- an extent of a table, and the LSN of its Extend record, its incarnation
pub record Extent : Type 0 where
  pub number : ℕ
  pub incarnation : ℕ

abbrev pub changed_extents : Record → ℕ → ℕ → List Extent → List Extent
changed_extents (Extend e) lsn o es = cond (eqb e.obj o) (es ++ record { number = e.extent; incarnation = lsn } ∷ []) es
changed_extents (Lower l) lsn o es = cond (eqb l.obj o) (take l.kept es) es
changed_extents _ lsn o es = es

-- the extents of table o, in order of index
abbrev pub extents_of : List Record → ℕ → List Extent
extents_of [] o = []
extents_of (r ∷ R) o = changed_extents r (suc (length R)) o (extents_of R o)

abbrev pub in_extent : Shape → ℕ → ℕ → Bool
in_extent sh x b = leb (first_block sh x) b && ltb b (first_block sh x + sh.extent)

-- the n blocks from b on
abbrev pub blocks_from : ℕ → ℕ → List ℕ
blocks_from b zero = []
blocks_from b (suc n) = b ∷ blocks_from (suc b) n

-- the data blocks of extent x that stands at this index in its table
abbrev pub extent_data : Shape → ℕ → ℕ → List ℕ
extent_data sh index x = blocks_from (first_block sh x + head_blocks index) (sh.extent - head_blocks index)

-- the data blocks of extents of which the first has this index
abbrev pub data_of : Shape → ℕ → List Extent → List ℕ
data_of sh index [] = []
data_of sh index (e ∷ es) = extent_data sh index e.number ++ data_of sh (suc index) es

-- the data blocks of table o, in order of position
abbrev pub data_blocks : Shape → List Record → ℕ → List ℕ
data_blocks sh R o = data_of sh 0 (extents_of R o)

-- how many data blocks of the table stand before this one
abbrev pub position : Shape → List Record → ℕ → ℕ → ℕ
position sh R o b = position_or_len (λ c. eqb c b) (data_blocks sh R o)

pub record Marks : Type 0 where
  pub low : ℕ
  pub high : ℕ

abbrev pub changed_marks : Record → ℕ → Marks → Marks
changed_marks (Advance a) o m = cond (eqb a.obj o) (record { low = a.low; high = a.high }) m
changed_marks (Lower l) o m = cond (eqb l.obj o) (record { low = l.low; high = l.high }) m
changed_marks _ o m = m

-- the marks of the last Advance or Lower of table o, or 0 and 0
abbrev pub marks : List Record → ℕ → Marks
marks [] o = record { low = 0; high = 0 }
marks (r ∷ R) o = changed_marks r o (marks R o)

abbrev pub low_mark : List Record → ℕ → ℕ
low_mark R o = (marks R o).low

abbrev pub high_mark : List Record → ℕ → ℕ
high_mark R o = (marks R o).high

abbrev pub changed_formatted : Shape → Record → ℕ → Bool → Bool
changed_formatted sh (FormatBlock f) b was = eqb f.dba b || was
changed_formatted sh (Extend e) b was = not (in_extent sh e.extent b) && was
changed_formatted sh _ b was = was

-- a FormatBlock of the block stands after the last Extend of its extent
abbrev pub is_formatted : Shape → List Record → ℕ → Bool
is_formatted sh [] b = false
is_formatted sh (r ∷ R) b = changed_formatted sh r b (is_formatted sh R b)

abbrev pub IsFormatted : Shape → List Record → ℕ → Type 0
IsFormatted sh R b = is_formatted sh R b ≡ true

-- the blocks under the high mark
abbrev pub under_high : Shape → List Record → ℕ → List ℕ
under_high sh R o = take (high_mark R o) (data_blocks sh R o)

-- a formatted block of the table under its high mark
pub record IsRowBlock (sh : Shape) (R : List Record) (o b : ℕ) : Type 0 where
  pub here : Contains (under_high sh R o) b
  pub formatted : is_formatted sh R b ≡ true

-- the first unformatted one of some blocks
abbrev pub first_unformatted : Shape → List Record → List ℕ → Option ℕ
first_unformatted sh R [] = None
first_unformatted sh R (b ∷ bs) = cond (is_formatted sh R b) (first_unformatted sh R bs) (Some b)

abbrev pub changed_tables : Record → ℕ → ℕ
changed_tables (Table t) n = suc n
changed_tables _ n = n

abbrev pub table_count : List Record → ℕ
table_count [] = 0
table_count (r ∷ R) = changed_tables r (table_count R)

-- table o is there: tables are numbered from 1
pub record IsTable (R : List Record) (o : ℕ) : Type 0 where
  pub least : 1 ≤ o
  pub most : o ≤ table_count R

abbrev pub is_byte_list : List ℕ → List ℕ → Bool
is_byte_list [] [] = true
is_byte_list [] (y ∷ ys) = false
is_byte_list (x ∷ xs) [] = false
is_byte_list (x ∷ xs) (y ∷ ys) = eqb x y && is_byte_list xs ys

abbrev pub named_after : Record → List ℕ → Option ℕ → Option ℕ
named_after (Table t) name was = cond (is_byte_list t.name name) (Some t.obj) was
named_after _ name was = was

-- the table with this name
abbrev pub table_named : List Record → List ℕ → Option ℕ
table_named [] name = None
table_named (r ∷ R) name = named_after r name (table_named R name)

abbrev pub changed_pctfree : Record → ℕ → ℕ → ℕ
changed_pctfree (Table t) o p = cond (eqb t.obj o) t.pctfree p
changed_pctfree _ o p = p

-- the PCTFREE of table o, as its Table states it
abbrev pub pctfree_of : List Record → ℕ → ℕ
pctfree_of [] o = 0
pctfree_of (r ∷ R) o = changed_pctfree r o (pctfree_of R o)

abbrev pub changed_movement : Record → ℕ → Bool → Bool
changed_movement (Movement m) o on = cond (eqb m.obj o) m.on on
changed_movement _ o on = on

-- the last Movement of table o turns row movement on
abbrev pub has_movement : List Record → ℕ → Bool
has_movement [] o = false
has_movement (r ∷ R) o = changed_movement r o (has_movement R o)

abbrev pub HasMovement : List Record → ℕ → Type 0
HasMovement R o = has_movement R o ≡ true

-- some extent of the list has this number
abbrev pub has_extent : List Extent → ℕ → Bool
has_extent [] x = false
has_extent (e ∷ es) x = eqb e.number x || has_extent es x

-- one of the tables 1 to n has this extent
abbrev pub is_taken : List Record → ℕ → ℕ → Bool
is_taken R zero x = false
is_taken R (suc n) x = has_extent (extents_of R (suc n)) x || is_taken R n x

-- a whole extent of the store that none of the 32 tables has
abbrev pub is_free_extent : Shape → List Record → ℕ → Bool
is_free_extent sh R x = is_extent sh x && not (is_taken R MOST_TABLES x)

-- the least free extent
pub record IsLeastFree (sh : Shape) (R : List Record) (x : ℕ) : Type 0 where
  pub free : is_free_extent sh R x ≡ true
  pub least : (y : ℕ) → suc y ≤ x → is_free_extent sh R y ≡ false

-- each formatted data block of the extent is vacant
abbrev pub is_vacant : Shape → List Record → ℕ → ℕ → Bool
is_vacant sh R index x = list_all (λ b. not (is_formatted sh R b) || is_vacant_block R b) (extent_data sh index x)

abbrev pub IsVacant : Shape → List Record → ℕ → ℕ → Type 0
IsVacant sh R index x = is_vacant sh R index x ≡ true

-- how many of these extents are left when the longest suffix of vacant ones is dropped
abbrev pub kept_length : Shape → List Record → ℕ → List Extent → ℕ
kept_length sh R index [] = 0
kept_length sh R index (e ∷ es) = elim (kept_length sh R (suc index) es) [ zero ↦ cond (is_vacant sh R index e.number) 0 1 | suc n ↦ suc (suc n) ]

-- where the bitmaps and the header of a table stand, by the table's extents

abbrev pub extent_at : List Extent → ℕ → Option Extent
extent_at [] n = None
extent_at (e ∷ es) zero = Some e
extent_at (e ∷ es) (suc n) = extent_at es n

abbrev pub block_in : Shape → Option Extent → ℕ → ℕ
block_in sh None n = 0
block_in sh (Some e) n = first_block sh e.number + n

abbrev pub header_of : Shape → List Extent → ℕ
header_of sh es = block_in sh (extent_at es 0) 3

abbrev pub l3_of : Shape → List Extent → ℕ
l3_of sh es = block_in sh (extent_at es 0) 2

-- the index of the extent with the L2 that covers the extent at this index: each covers 300
abbrev pub group_start : ℕ → ℕ
group_start index = cond (ltb index EXTENTS_OF_L2) 0 (cond (ltb index (2 * EXTENTS_OF_L2)) EXTENTS_OF_L2 (2 * EXTENTS_OF_L2))

-- the L2 that covers the extent at this index
abbrev pub l2_of : Shape → List Extent → ℕ → ℕ
l2_of sh es index = block_in sh (extent_at es (group_start index)) 1

-- the index of the extent in which a block stands
abbrev pub index_of : Shape → List Extent → ℕ → ℕ
index_of sh es b = position_or_len (λ (e : Extent). in_extent sh e.number b) es
