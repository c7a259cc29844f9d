-- What the pages of the header and of the space bitmap tell of a Lower.
use Rattle.std.proofs.Common.{◌≡◌, ℕ, zero, suc, ◌+◌, ◌-◌, ◌^◌, ◌<◌, ◌≤◌, true, ltb, List, [], ◌∷◌, ◌++◌, length, map, drop, Option, Some, None, refl, sym, ◌∙◌, ap, arith, lt-ltb}
use Rattle.std.specs.Prelude.{Result, Ok, Err, OnOk}
use Rattle.std.proofs.lemmas.List.{append_assoc, append-nil, drop-map}
use Rattle.seg_words.proofs.Lemmas.{cond-true, drop_all}
use Rattle.seg_words.specs.Types.{NoMemory}
use Rattle.disk_model.specs.Crash.{Meaning}
use Rattle.segment_blocks.specs.Types.{extent_at as number_in, Header as HeaderPage}
use Rattle.segment_blocks.specs.Spaces.{Space as SpacePage}
use Rattle.redo_model.specs.Records.{Record, Table, Lower}
use Rattle.redo_model.specs.Model.{Extent, extents_of, lowering_count, table_count, IsTable}
use Rattle.page_set.specs.declared.page.Page.{Page}
use Rattle.page_set.specs.declared.page.Page.TheVariants as pages
use Rattle.page_set.specs.Folded.{page_of}
use Rattle.page_fit.specs.Headers.{HeaderSays, SaysHeader}
use Rattle.page_says.specs.Space.{SaysSpace, SpaceSays}
use Rattle.store_core.specs.Store.{Held, has_page}
use Rattle.store_read.proofs.Truth.{header_at_has, header_says, space_has, space_says}
use Rattle.lowering.specs.declared.ground.Ground.{Ground}
use Rattle.lowering.specs.Asked.{lowering_in, next_lowering, released_in}
use Rattle.lowering.specs.Known.{Knows}
use Rattle.lowering.proofs.Knowing.{segment_there}
use Rattle.lowering.proofs.Places.{first_there}

-- ---- a list from an index on

from_index : (xs : List ℕ) (index x : ℕ) → number_in xs index ≡ Some x → drop index xs ≡ x ∷ drop (suc index) xs
from_index [] zero x h = absurd (let z : ◌≡◌ {A = Option ℕ} None (Some x) = h in cc)
from_index [] (suc i) x h = absurd (let z : ◌≡◌ {A = Option ℕ} None (Some x) = h in cc)
from_index (y ∷ xs) zero x h = ap (λ (z : ℕ). z ∷ xs) (let z : ◌≡◌ {A = Option ℕ} (Some y) (Some x) = h in cc)
from_index (y ∷ xs) (suc i) x h = from_index xs i x h

past_index : (xs : List ℕ) (index : ℕ) → number_in xs index ≡ None → drop (suc index) xs ≡ drop index xs
past_index [] zero h = refl
past_index [] (suc i) h = refl
past_index (y ∷ xs) zero h = absurd (let z : ◌≡◌ {A = Option ℕ} (Some y) None = h in cc)
past_index (y ∷ xs) (suc i) h = past_index xs i h

-- one more was taken from the list
next_index : (xs : List ℕ) (index : ℕ) → drop (index + 1) xs ≡ drop (suc index) xs
next_index xs index = ap (λ (n : ℕ). drop n xs) (let z : index + 1 ≡ suc index = omega arith in z)

one_taken : (xs old new : List ℕ) (index x : ℕ) → number_in xs index ≡ Some x → new ≡ old ++ x ∷ [] → new ++ drop (index + 1) xs ≡ old ++ drop index xs
one_taken xs old new index x h e =
    ap (λ (l : List ℕ). l ++ drop (index + 1) xs) e
    ∙ ap (λ (l : List ℕ). (old ++ x ∷ []) ++ l) (next_index xs index)
    ∙ append_assoc old (x ∷ []) (drop (suc index) xs)
    ∙ ap (λ (l : List ℕ). old ++ l) (sym (from_index xs index x h))

-- none was
pub none_taken : (xs old : List ℕ) (index : ℕ) → number_in xs index ≡ None → old ++ drop (index + 1) xs ≡ old ++ drop index xs
none_taken xs old index h = ap (λ (l : List ℕ). old ++ l) (next_index xs index ∙ past_index xs index h)

pub all_taken : (xs found all : List ℕ) (n : ℕ) → length xs ≤ n → found ++ drop n xs ≡ all → found ≡ all
all_taken xs found all n l e = sym (ap (λ (l : List ℕ). found ++ l) (drop_all n xs l) ∙ append-nil found) ∙ e

-- ---- the header

record IsHeader (R : List Record) (o : ℕ) (p : Page) : Type 0 where
  header : HeaderPage
  page : p ≡ pages.Header header
  says : HeaderSays R o header

is_header : (R : List Record) (o : ℕ) (p : Page) → SaysHeader R o p → IsHeader R o p
is_header R o (pages.Header h) s = record { header = h; page = refl; says = s }
is_header R o _ s = absurd s

pub released_read : {D : Type 0} (meaning : Meaning D) (s : Held D) (R : List Record) (o kept : ℕ) (g : Ground) → Knows meaning R o s g → released_in kept (page_of s.shape R g.segment.header) ≡ Some (map (λ (e : Extent). e.number) (drop kept (extents_of R o)))
released_read meaning s R o kept g k =
    let h = is_header R o (page_of s.shape R g.segment.header) (header_says s.shape R o g.segment.header (page_of s.shape R g.segment.header) k.holds.list.within k.holds.lawful k.table (segment_there meaning s R o g k).header refl) in
    ap (released_in kept) h.page
    ∙ ap (λ (xs : List ℕ). Some (drop kept xs)) h.says.extents
    ∙ ap (λ (xs : List ℕ). Some xs) (drop-map (λ (e : Extent). e.number) kept (extents_of R o))

list_inside : (xs ys : List ℕ) → ◌≡◌ {A = Option (List ℕ)} (Some xs) (Some ys) → xs ≡ ys
list_inside xs ys e = cc

pub released_told : {D : Type 0} (meaning : Meaning D) (s : Held D) (R : List Record) (o kept : ℕ) (g : Ground) (xs : List ℕ) → Knows meaning R o s g → released_in kept (page_of s.shape R g.segment.header) ≡ Some xs → xs ≡ map (λ (e : Extent). e.number) (drop kept (extents_of R o))
released_told meaning s R o kept g xs k e = list_inside xs _ (sym e ∙ released_read meaning s R o kept g k)

pub header_there : {D : Type 0} (meaning : Meaning D) (s : Held D) (R : List Record) (o : ℕ) (g : Ground) → Knows meaning R o s g → has_page s.shape g.segment.header ≡ true
header_there meaning s R o g k = header_at_has s.shape R o g.segment.header k.holds.list.within k.holds.lawful k.table (segment_there meaning s R o g k).header

-- ---- the space bitmap

record IsSpace (R : List Record) (p : Page) : Type 0 where
  space : SpacePage
  page : p ≡ pages.Space space
  says : SpaceSays R space

is_space : (R : List Record) (o : ℕ) (p : Page) → 0 < length (extents_of R o) → SaysSpace R p → IsSpace R p
is_space R o (pages.Space s) l h = record { space = s; page = refl; says = h }
is_space R o (pages.Zero d) l h = (let n : length (extents_of R o) ≡ 0 = ap (λ (es : List Extent). length es) (h.extents o) in absurd (omega (arith, l, n)))
is_space R o _ l h = absurd h

-- tables and lowerings have a record each
few_lowerings : (R : List Record) → lowering_count R + table_count R ≤ length R
few_lowerings [] = omega arith
few_lowerings (Table t ∷ R) = (let k = few_lowerings R in let z : lowering_count R + suc (table_count R) ≤ suc (length R) = omega (arith, k) in z)
few_lowerings (Lower l ∷ R) = (let k = few_lowerings R in let z : suc (lowering_count R) + table_count R ≤ suc (length R) = omega (arith, k) in z)
few_lowerings (_ ∷ R) = (let k = few_lowerings R in let z : lowering_count R + table_count R ≤ suc (length R) = omega (arith, k) in z)

next_small : (R : List Record) (o : ℕ) → length R < 2 ^ 64 → IsTable R o → lowering_count R < 2 ^ 64 - 1
next_small R o l t = (let k = few_lowerings R in let a = t.least in let b = t.most in omega (arith, k, a, b, l))

pub lowering_read : {D : Type 0} (meaning : Meaning D) (s : Held D) (R : List Record) (o : ℕ) (g : Ground) → Knows meaning R o s g → lowering_in (page_of s.shape R 3) ≡ Some (suc (lowering_count R))
lowering_read meaning s R o g k =
    let p = is_space R o (page_of s.shape R 3) (first_there meaning s R o g k) (space_says s.shape R (page_of s.shape R 3) k.holds.list.within k.holds.lawful refl) in
    ap lowering_in p.page
    ∙ ap next_lowering p.says.lowerings
    ∙ cond-true (ltb (lowering_count R) (2 ^ 64 - 1)) _ None (lt-ltb (lowering_count R) (2 ^ 64 - 1) (next_small R o k.holds.list.few k.table))
    ∙ ap (λ (n : ℕ). Some n) (let z : lowering_count R + 1 ≡ suc (lowering_count R) = omega arith in z)

number_inside : (n m : ℕ) → ◌≡◌ {A = Option ℕ} (Some n) (Some m) → n ≡ m
number_inside n m e = cc

pub lowering_told : {D : Type 0} (meaning : Meaning D) (s : Held D) (R : List Record) (o n : ℕ) (g : Ground) → Knows meaning R o s g → lowering_in (page_of s.shape R 3) ≡ Some n → n ≡ suc (lowering_count R)
lowering_told meaning s R o n g k e = number_inside n _ (sym e ∙ lowering_read meaning s R o g k)

pub space_there : {D : Type 0} (meaning : Meaning D) (s : Held D) (R : List Record) (o : ℕ) (g : Ground) → Knows meaning R o s g → has_page s.shape 3 ≡ true
space_there meaning s R o g k = space_has s.shape k.holds.list.within

-- ---- one more extent

pub added_one : (xs old new : List ℕ) (index x : ℕ) (r : Result (Unit {0}) NoMemory) → number_in xs index ≡ Some x → OnOk r (new ≡ old ++ x ∷ []) → OnOk r (new ++ drop (index + 1) xs ≡ old ++ drop index xs)
added_one xs old new index x (Ok u) h e = one_taken xs old new index x h e
added_one xs old new index x (Err f) h e = tt
