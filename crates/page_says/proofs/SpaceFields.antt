-- A record that fits a page of the segments' space leaves one that has a spelling: the catalogue, the space bitmap, the three
-- levels of bitmaps, headers.
use Rattle.std.proofs.Common.{ℕ, ◌-◌, ◌/◌, ◌%◌, ◌*◌, ◌<◌, ◌≤◌, ◌^◌, min, Bool, true, false, List, [], ◌∷◌, slice_index, slice_set, refl, ◌∙◌, arith, length-append}
use Rattle.std.specs.Int.{w8, bit_not}
use Rattle.std.proofs.lemmas.Nat.{or_lt, and_le_l}
use Rattle.std.proofs.lemmas.List.{length-set, length-take}
use Rattle.seg_words.specs.Types.{AllByRecursion, Class as BlockClass, Unformatted, Full, Fs1, Fs2, Fs3, Fs4, class_code, EXTENTS_OF_L2, MOST_EXTENT_BLOCKS}
use Rattle.bitmap_block.specs.Codes.{HasCodes}
use Rattle.bitmap_block.specs.Pages.{ExtentMap, Summary}
use Rattle.bitmap_block.proofs.Clearing.{cleared_has_codes}
use Rattle.segment_blocks.specs.Types.{Tables, IsCatalogueEntry, Header as HeaderPage}
use Rattle.segment_blocks.specs.Spaces.{Space as SpacePage, HasBits, with_bit, with_extent}
use Rattle.segment_blocks.proofs.Marking.{has_bits}
use Rattle.redo_model.specs.Records.{Record, Table, Movement, Extend, FormatBlock, Class, Advance, Lower, HasSpelling}
use Rattle.page_set.specs.Catalogues.{entry_of_table, catalogue_changed, CatalogueFits}
use Rattle.page_set.specs.Spaces.{freed, space_changed, AreCovered, SpaceFits}
use Rattle.page_set.specs.Maps.{covered_from, first_changed, second_changed, third_changed, FirstFits, SecondFits, ThirdFits}
use Rattle.page_set.specs.Headers.{header_changed, HeaderFits}
use Rattle.page_says.proofs.Fields.{CatalogueHas, SpaceHas, HeaderHas, set_all, take_all, push_all, one_all, get_set}

-- the catalogue

pub catalogue_has : (r : Record) (c : Tables) → HasSpelling r → CatalogueFits r → CatalogueHas c.entries → CatalogueHas (catalogue_changed r c).entries
catalogue_has (Table t) c s f h = record {
  count = length-set c.entries (t.obj - 1) (entry_of_table t) ∙ h.count;
  each = set_all IsCatalogueEntry c.entries (t.obj - 1) (entry_of_table t) (s.name, s.header) h.each;
}
catalogue_has _ c s f h = absurd f

-- the space bitmap

bit_fits : (b k : ℕ) (used : Bool) → b < 256 → with_bit b k used < 256
bit_fits b k true l = or_lt 8 b (1 * 2 ^ k % 2 ^ 8) l (omega arith)
bit_fits b k false l = let m = and_le_l b (bit_not w8 (1 * 2 ^ k % 2 ^ 8)) in omega (arith, l, m)

record Bits (bits : List ℕ) : Type 0 where
  has : HasBits bits
  bytes : AllByRecursion (λ b. b < 256) bits

marked : (bits : List ℕ) (x : ℕ) (used : Bool) → x < 2043 → Bits bits → Bits (with_extent bits x used)
marked bits x used l h =
    let b : ℕ = slice_index bits (x / 8) in
    let small : b < 256 = one_all (λ c. c < 256) bits (x / 8) 0 (omega arith) h.bytes in
    let v : ℕ = with_bit b (7 - x % 8) used in
    record { has = has_bits bits x v used h.has l small refl; bytes = set_all (λ c. c < 256) bits (x / 8) v (bit_fits b (7 - x % 8) used small) h.bytes }

all_freed : (xs bits : List ℕ) → AreCovered xs → Bits bits → Bits (freed xs bits)
all_freed [] bits c h = h
all_freed (x ∷ xs) bits c h = all_freed xs (with_extent bits x false) c.1 (marked bits x false c.0 h)

pub space_has : (r : Record) (s : SpacePage) → HasSpelling r → SpaceFits r → SpaceHas s.lowerings s.bits → SpaceHas (space_changed r s).lowerings (space_changed r s).bits
space_has (Extend e) s k f h =
    let b = marked s.bits e.extent true f (record { has = h.has; bytes = h.bytes }) in
    record { fits = h.fits; has = b.has; bytes = b.bytes }
space_has (Lower l) s k f h =
    let b = all_freed l.released s.bits f (record { has = h.has; bytes = h.bytes }) in
    record { fits = k.lowering; has = b.has; bytes = b.bytes }
space_has _ s k f h = absurd f

-- bitmaps

code_put : (n : ℕ) (codes : List ℕ) (i c : ℕ) → c ≤ 5 → HasCodes n codes → HasCodes n (slice_set codes i c)
code_put n codes i c l h = record {
  count = length-set codes i c ∙ h.count;
  each = λ j m. get_set (λ (x : ℕ). x ≤ 5) codes i c j 0 l (h.each j (let k = length-set codes i c in omega (arith, k, m)));
}

class_fits : (c : BlockClass) → class_code c ≤ 5
class_fits Unformatted = omega arith
class_fits Full = omega arith
class_fits Fs1 = omega arith
class_fits Fs2 = omega arith
class_fits Fs3 = omega arith
class_fits Fs4 = omega arith

pub first_has : (r : Record) (m : ExtentMap) → HasSpelling r → FirstFits r m → (m.incarnation < 2 ^ 64) × HasCodes MOST_EXTENT_BLOCKS m.codes → ((first_changed r m).incarnation < 2 ^ 64) × HasCodes MOST_EXTENT_BLOCKS (first_changed r m).codes
first_has (Extend e) m s f h = h
first_has (FormatBlock b) m s f h = (h.0, code_put MOST_EXTENT_BLOCKS m.codes (b.dba - m.dba) 5 (omega arith) h.1)
first_has (Class k) m s f h = (h.0, code_put MOST_EXTENT_BLOCKS m.codes (k.dba - m.dba) (class_code k.class) (class_fits k.class) h.1)
first_has _ m s f h = absurd f

pub second_has : (r : Record) (m : Summary) → HasSpelling r → SecondFits r → HasCodes EXTENTS_OF_L2 m.codes → HasCodes EXTENTS_OF_L2 (second_changed r m).codes
second_has (Extend e) m s f h = code_put EXTENTS_OF_L2 m.codes (e.index % EXTENTS_OF_L2) 0 (omega arith) h
second_has (FormatBlock b) m s f h = code_put EXTENTS_OF_L2 m.codes (b.index % EXTENTS_OF_L2) b.best_of_l1 f h
second_has (Class k) m s f h = code_put EXTENTS_OF_L2 m.codes (k.index % EXTENTS_OF_L2) k.best_of_l1 f h
second_has (Lower l) m s f h = cleared_has_codes m.codes _ EXTENTS_OF_L2 (min (l.kept - covered_from l.l2 m.dba) EXTENTS_OF_L2) h (omega arith) refl
second_has _ m s f h = absurd f

pub third_has : (r : Record) (m : Summary) → HasSpelling r → ThirdFits r → HasCodes 3 m.codes → HasCodes 3 (third_changed r m).codes
third_has (Extend e) m s f h = h
third_has (FormatBlock b) m s f h = code_put 3 m.codes (b.index / EXTENTS_OF_L2) b.best_of_l2 f.1 h
third_has (Class k) m s f h = code_put 3 m.codes (k.index / EXTENTS_OF_L2) k.best_of_l2 f.1 h
third_has (Lower l) m s f h = code_put 3 _ 2 (slice_index l.bests 2) f.2 (code_put 3 _ 1 (slice_index l.bests 1) f.1 (code_put 3 m.codes 0 (slice_index l.bests 0) f.0 h))
third_has _ m s f h = absurd f

-- headers

abbrev Have : HeaderPage → Type 0
Have h = HeaderHas h.obj h.pctfree h.low h.high h.extents

pub header_has : (r : Record) (p : HeaderPage) → HasSpelling r → HeaderFits r p → Have p → Have (header_changed r p)
header_has (Table t) p s f h = h
header_has (Movement m) p s f h = h
header_has (Extend e) p s f h = record {
  least = h.least;
  most = h.most;
  pctfree_fits = h.pctfree_fits;
  low_fits = h.low_fits;
  high_fits = h.high_fits;
  count = (let n = length-append p.extents (e.extent ∷ []) in omega (arith, n, f));
  each = push_all (λ x. x < 2 ^ 32) p.extents e.extent s.extent h.each;
}
header_has (Advance a) p s f h = record { least = h.least; most = h.most; pctfree_fits = h.pctfree_fits; low_fits = s.low; high_fits = s.high; count = h.count; each = h.each }
header_has (Lower l) p s f h = record {
  least = h.least;
  most = h.most;
  pctfree_fits = h.pctfree_fits;
  low_fits = s.low;
  high_fits = s.high;
  count = (let n = length-take l.kept p.extents in let m = h.count in omega (arith, n, m));
  each = take_all (λ x. x < 2 ^ 32) l.kept p.extents h.each;
}
header_has _ p s f h = absurd f
