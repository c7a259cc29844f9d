-- One step of a walk, from an image that was reached and from an address to which it leads.
use Rattle.std.proofs.Common.{◌≡◌, ◌≢◌, ℕ, zero, suc, ◌+◌, ◌*◌, ◌<◌, ◌≤◌, true, false, List, [], ◌∷◌, map, option_map, Option, Some, None, refl, sym, ◌∙◌, ap, subst, arith, inl, inr, min, leb, ltb, leb-true, ltb-false, eq-eqb, lt-ltb, le-leb, le-ltb}
use Rattle.seg_words.specs.Types.{is_shape, Shape, Slot, UndoAddr, Writer, By, new_slot, MOST_UNDO_PARTS, OWN_BLOCKS, MOST_UNDO_BLOCKS}
use Rattle.seg_words.proofs.Lemmas.{and_parts, cond-true, cond-false}
use Rattle.redo_model.specs.Records.{Record}
use Rattle.redo_model.specs.Model.{holds_row, image as image_in, HeldPart, undo_held, undo_sequence, held_at, is_reused, Made, makers, counts, image_at, row_in, AreAllowed}
use Rattle.redo_laws.specs.Chain.{IsChain, EachMade}
use Rattle.redo_laws.specs.Reads.{LeadsTo, IsPresent}
use Rattle.redo_laws.specs.Views.{IsOpen}
use Rattle.redo_laws.specs.Writers.{EachTells, TxnTells}
use Rattle.redo_laws.proofs.numbers.Bounds.{limits}
use Rattle.redo_laws.proofs.links.ChainLaw.{slots_are_chains}
use Rattle.redo_laws.proofs.undo.ReadsLaw.{undo_is_read}
use Rattle.redo_laws.proofs.links.WritersLaw.{writers_are_told}
use Rattle.undo_block.specs.declared.part.Part.{Part}
use Rattle.undo_block.specs.Types.{UndoPage}
use Rattle.txn_block.specs.Types.{TxnTable}
use Rattle.version_laws.specs.Types.{MadeKnown, EndsNew, HoldsTable, HoldsUndo, IsInRing, IsInUse, as_kept, PartKnown, present_count, ChainEnd, Found, Lost, Unknown, is_unknown, named_by, end_from, chain_end, EndMeans}
use Rattle.version_laws.proofs.EndLaw.{chains_end}
use Rattle.version_laws.proofs.Falling.{walks_end}
use Rattle.version_laws.proofs.SlotLaw.{slots_are_known}
use Rattle.version_read.specs.declared.version.Tells.{Tells}
use Rattle.version_read.specs.declared.version.Tells.TheVariants.{Counts, Passes}
use Rattle.version_read.specs.Looking.{tells, old_at}
use Rattle.version_read.specs.Walking.{txn_or_none, IsOwn, IsReader, IsWalk, IsOnWay, IsMadeBy, AreMadeBy, Reaches, LeadsDown, old_held, SeesRow, SeesNone, IsRefused, IsRefusedEntry, StandsAt}
use Rattle.version_read.proofs.Telling.{IsTold, writer_tells}
use Rattle.version_read.specs.declared.version.Tells.TheVariants as told

-- ---- what is known of a slot's images

pub is_open : (R : List Record) (own : Option ℕ) → IsOwn R own → IsOpen R (txn_or_none own)
is_open R None h = inl refl
is_open R (Some t) h = inr h

all_made : (sh : Shape) (R : List Record) (b k s t : ℕ) (i : Slot) (ms : List Made) → IsChain i ms → EachTells R s t i ms → EachMade (λ m. (u : ℕ) → m.by ≡ By u → TxnTells R s t u) ms → EachMade (λ m. IsPresent R m.part → LeadsTo R b k m) ms
    → EachMade (MadeKnown R) ms → EachMade (PartKnown R) ms → EachMade (λ m. IsInRing sh m.part.block) ms → EndsNew i ms → AreMadeBy sh R b k s t i ms
all_made sh R b k s t i [] c w x l n p r e = e
all_made sh R b k s t i (m ∷ ms) c w x l n p r e = (record { undo = c.0; writer = w.0; txn = x.0; leads = l.0; known = n.0; part = p.0; ring = r.0 }, all_made sh R b k s t m.old ms c.1 w.1 x.1 l.1 n.1 p.1 r.1 e)

-- the image that stands there is reached
pub begins : (sh : Shape) (R : List Record) (b k s : ℕ) (own : Option ℕ) → IsReader sh R own → Reaches sh R b k s (txn_or_none own) 0 (MOST_UNDO_PARTS * sh.undo) (image_in R b k)
begins sh R b k s own h =
    let w = writers_are_told sh R s (txn_or_none own) b k h.allowed (is_open R own h.reader) in
    let known = slots_are_known sh R b k h.allowed in
    let walk = walks_end sh R b k (limits sh h.shape).undo_from h.allowed in
    record {
      rest = makers R b k;
      ends = refl;
      made = all_made sh R b k s (txn_or_none own) (image_in R b k) (makers R b k) (slots_are_chains sh R b k h.allowed).chain w.images w.txns ((undo_is_read sh R h.allowed).leads b k) known.made walk.known walk.ring known.ends;
      few = (let l = walk.in_all in omega (arith, l));
    }

-- ---- from an image

-- what is told of an image says where the walk from it goes
abbrev pub EndAt : Shape → List Record → ℕ → ℕ → ℕ → ℕ → ℕ → ℕ → Slot → Tells → Type 0
EndAt sh R b k s t n most i Counts = chain_end R b k s t ≡ Found i
EndAt sh R b k s t n most i Passes = ((a : UndoAddr) → i.undo ≡ Some a → LeadsDown sh R b k s t n most a) × (i.undo ≡ None → ⊥)
EndAt sh R b k s t n most i (told.Unknown u) = chain_end R b k s t ≡ Unknown u

last_told : (p : TxnTable) (s : ℕ) (own : Option ℕ) (i : Slot) → i ≡ new_slot → tells p s own i.writer ≡ Counts
last_told p s own i e = ap (λ (j : Slot). tells p s own j.writer) e ∙ cond-true _ _ _ (le-leb 0 s (omega arith))

at_last : (sh : Shape) (R : List Record) (b k s t n most : ℕ) (p : TxnTable) (own : Option ℕ) (i : Slot) → i ≡ new_slot → Found i ≡ chain_end R b k s t → EndAt sh R b k s t n most i (tells p s own i.writer)
at_last sh R b k s t n most p own i e f = subst (EndAt sh R b k s t n most i) (sym (last_told p s own i e)) (sym f)

at_told : (sh : Shape) (R : List Record) (b k s t n most : ℕ) (i : Slot) (m : Made) (ms : List Made) (x : Tells) → end_from R s t i (m ∷ ms) ≡ chain_end R b k s t → IsMadeBy sh R b k s t i m → AreMadeBy sh R b k s t m.old ms → present_count R (m ∷ ms) + n ≤ most
    → IsTold R s t (counts R s t m.by) i.writer x → EndAt sh R b k s t n most i x
at_told sh R b k s t n most i m ms Counts e by below few h = sym e ∙ cond-false _ _ _ h.0 ∙ cond-true _ _ _ h.1
at_told sh R b k s t n most i m ms Passes e by below few h = (
  (λ a u. record {
    image = i;
    made = m;
    rest = ms;
    at = same_part i m.part a by.undo u;
    by = by;
    below = below;
    ends = sym (cond-false (is_unknown R s t i.writer) (Unknown (named_by i.writer)) _ h.0 ∙ cond-false (counts R s t m.by) (Found i) _ h.1) ∙ e;
    few = few;
  }),
  (λ u. let z : ◌≡◌ {A = Option UndoAddr} None (Some m.part) = sym u ∙ by.undo in cc),
)
  where
    same_part : (i : Slot) (x y : UndoAddr) → i.undo ≡ Some x → i.undo ≡ Some y → x ≡ y
    same_part i x y e f = let z : ◌≡◌ {A = Option UndoAddr} (Some x) (Some y) = sym e ∙ f in cc
at_told sh R b k s t n most i m ms (told.Unknown u) e by below few h = sym e ∙ cond-true _ _ _ h.1 ∙ ap (λ (w : Writer). Unknown (named_by w)) h.0

pub at_image : (sh : Shape) (R : List Record) (b k s n most : ℕ) (own : Option ℕ) (p : TxnTable) (i : Slot) → IsReader sh R own → HoldsTable R p → Reaches sh R b k s (txn_or_none own) n most i → EndAt sh R b k s (txn_or_none own) n most i (tells p s own i.writer)
at_image sh R b k s n most own p i h tb r = go r.rest r.ends r.made r.few
  where
    go : (ms : List Made) → end_from R s (txn_or_none own) i ms ≡ chain_end R b k s (txn_or_none own) → AreMadeBy sh R b k s (txn_or_none own) i ms → present_count R ms + n ≤ most → EndAt sh R b k s (txn_or_none own) n most i (tells p s own i.writer)
    go [] e m f = at_last sh R b k s (txn_or_none own) n most p own i m e
    go (x ∷ ms) e m f = at_told sh R b k s (txn_or_none own) n most i x ms (tells p s own i.writer) e m.0 m.1 f
        (writer_tells sh R p s own i.writer x.by h.allowed tb m.0.writer.at m.0.writer.by m.0.txn m.0.known.begun)

-- ---- from an address

pub record IsBelow (sh : Shape) (R : List Record) (b k s t n most : ℕ) (u : UndoPage) (a : UndoAddr) : Type 0 where
  pub old : Slot
  pub there : old_at u.parts a.nth ≡ Some old
  pub stands : StandsAt sh R a old
  pub more : n < most
  pub reaches : Reaches sh R b k s t (n + 1) most old

pub held_part : (hs : List HeldPart) (n : ℕ) (ps : List Part) → ps ≡ map as_kept hs → old_at ps n ≡ option_map (λ (g : HeldPart). g.part.old) (held_at hs n)
held_part hs n ps e = ap (λ (xs : List Part). old_at xs n) e ∙ go hs n
  where
    go : (hs : List HeldPart) (n : ℕ) → old_at (map as_kept hs) n ≡ option_map (λ (g : HeldPart). g.part.old) (held_at hs n)
    go [] n = refl
    go (g ∷ gs) zero = refl
    go (g ∷ gs) (suc n) = go gs n

-- the block is used as it was when the part was written
pub at_part : (sh : Shape) (R : List Record) (b k s t n most : ℕ) (u : UndoPage) (a : UndoAddr) → AreAllowed sh R → HoldsUndo R a.block u → LeadsDown sh R b k s t n most a → a.seq ≡ u.sequence → IsBelow sh R b k s t n most u a
at_part sh R b k s t n most u a h p l e =
    let present : IsPresent R l.made.part = subst (λ (x : UndoAddr). x.seq ≡ undo_sequence R x.block) (sym l.at) (e ∙ p.sequence) in
    let to = l.by.leads present in
    let held : old_held R a ≡ Some l.made.old = ap (old_held R) (sym l.at) ∙ ap (option_map (λ (g : HeldPart). g.part.old)) to.there ∙ ap (λ (j : Slot). Some j) to.old in
    let kept : is_reused R l.made.part ≡ false = (undo_is_read sh R h).reused l.made.part ∙ le-ltb l.made.part.seq (undo_sequence R l.made.part.block) (omega (arith, present)) in
    let counted : present_count R (l.made ∷ l.rest) ≡ suc (present_count R l.rest) = cond-true _ _ _ (eq-eqb l.made.part.seq (undo_sequence R l.made.part.block) present) in
    record {
      old = l.made.old;
      there = held_part (undo_held R a.block) a.nth u.parts p.parts ∙ held;
      stands = record {
        in_use = subst (λ (x : UndoAddr). IsInUse sh R x.block) l.at (record { ring = l.by.ring; used = (let m = l.by.known.used in let w = l.by.known.low in omega (arith, m, w)) });
        present = e ∙ p.sequence;
        old = held;
      };
      more = (let f = l.few in omega (arith, counted, f));
      reaches = record { rest = l.rest; ends = sym (cond-false (is_reused R l.made.part) (Lost l.made.part) _ kept) ∙ l.ends; made = l.below; few = (let f = l.few in omega (arith, counted, f)) };
    }

-- or it was used again since
pub at_lost : (sh : Shape) (R : List Record) (b k s t n most : ℕ) (u : UndoPage) (a : UndoAddr) → AreAllowed sh R → HoldsUndo R a.block u → LeadsDown sh R b k s t n most a → a.seq ≢ u.sequence → chain_end R b k s t ≡ Lost a
at_lost sh R b k s t n most u a h p l d =
    let low : a.seq ≤ undo_sequence R a.block = subst (λ (x : UndoAddr). x.seq ≤ undo_sequence R x.block) l.at l.by.known.low in
    let less : a.seq < undo_sequence R a.block = (let q = p.sequence in omega (arith, low, q, d)) in
    let lost : is_reused R l.made.part ≡ true = subst (λ (x : UndoAddr). is_reused R x ≡ true) (sym l.at) ((undo_is_read sh R h).reused a ∙ lt-ltb a.seq (undo_sequence R a.block) less) in
    sym l.ends ∙ cond-true _ _ _ lost ∙ ap Lost l.at

pub used_block : (sh : Shape) (R : List Record) (b k s t n most : ℕ) (a : UndoAddr) → LeadsDown sh R b k s t n most a → IsInUse sh R a.block
used_block sh R b k s t n most a l = subst (λ (x : UndoAddr). IsInUse sh R x.block) l.at (record { ring = l.by.ring; used = (let m = l.by.known.used in let w = l.by.known.low in omega (arith, m, w)) })

-- ---- ends

meant : (R : List Record) (b k s t : ℕ) (x : ChainEnd) → chain_end R b k s t ≡ x → EndMeans R b k s t x
meant R b k s t x e = subst (EndMeans R b k s t) e (chains_end R b k s t)

pub sees_row : (R : List Record) (b k s t : ℕ) (i : Slot) → chain_end R b k s t ≡ Found i → holds_row i.kind ≡ true → SeesRow R b k s t i
sees_row R b k s t i e h =
    let same : i ≡ image_at R b k s t = meant R b k s t (Found i) e in
    record { ends = e; seen = same; holds = h; row = ap row_in (sym same) ∙ cond-true _ _ _ h }

pub sees_none : (R : List Record) (b k s t : ℕ) (i : Slot) → chain_end R b k s t ≡ Found i → holds_row i.kind ≡ false → SeesNone R b k s t
sees_none R b k s t i e h =
    let same : i ≡ image_at R b k s t = meant R b k s t (Found i) e in
    record { ends = e ∙ ap Found same; holds = ap (λ (j : Slot). holds_row j.kind) (sym same) ∙ h; row = ap row_in (sym same) ∙ cond-false _ _ _ h }

pub is_refused : (R : List Record) (b k s t : ℕ) (a : UndoAddr) → chain_end R b k s t ≡ Lost a → IsRefused R b k s t a
is_refused R b k s t a e = record { ends = e; means = meant R b k s t (Lost a) e }

pub is_refused_entry : (R : List Record) (b k s t u : ℕ) → chain_end R b k s t ≡ Unknown u → IsRefusedEntry R b k s t u
is_refused_entry R b k s t u e = record { ends = e; means = meant R b k s t (Unknown u) e }

-- ---- a walk

few_undo_blocks : (sh : Shape) → is_shape sh ≡ true → sh.undo ≤ MOST_UNDO_BLOCKS
few_undo_blocks sh h =
    let a = and_parts _ (leb (OWN_BLOCKS + sh.undo + sh.extent) sh.blocks) h in
    let b = and_parts _ (leb sh.undo MOST_UNDO_BLOCKS) a.0 in
    leb-true sh.undo MOST_UNDO_BLOCKS b.1

pub starts : (sh : Shape) (R : List Record) (b k s : ℕ) (own : Option ℕ) (ring most : ℕ) (a : UndoAddr) → IsWalk sh R b k s own ring a → most ≡ MOST_UNDO_PARTS * min ring MOST_UNDO_BLOCKS → LeadsDown sh R b k s (txn_or_none own) 0 most a
starts sh R b k s own ring most a w e =
    let few = few_undo_blocks sh w.reader.shape in
    let same = w.undo_blocks in
    let all : MOST_UNDO_PARTS * sh.undo ≡ most = omega (arith, e, few, same) in
    subst (λ n. LeadsDown sh R b k s (txn_or_none own) 0 n a) all w.steps

pub on_way : (sh : Shape) (R : List Record) (b k s : ℕ) (own : Option ℕ) (ring n most : ℕ) (from a : UndoAddr) → IsWalk sh R b k s own ring from → LeadsDown sh R b k s (txn_or_none own) n most a → IsOnWay sh R b k s own n most a (ltb n most)
on_way sh R b k s own ring n most from a w l = record { reader = w.reader; leads = l; else_all = λ q. ltb-false n most q }
