-- The answers: what an image shows that stands in a slot, and where the part at an address leads.
use Rattle.std.proofs.Common.{◌≡◌, ℕ, ◌+◌, ◌*◌, ◌<◌, ◌≤◌, Bool, true, false, cond, if◌then◌else◌, nat_lt, length, get_or, eqb, List, Option, Some, None, MatchOption, sym, ◌∙◌, ap, subst, arith, inl, inr, eqb-true, eq-eqb, ltb-true, lt-ltb}
use Rattle.seg_words.proofs.Lemmas.{cond-true, cond-false, cases_Bool, eqb-false}
use Rattle.seg_words.specs.Types.{Shape, Slot, UndoAddr, Block, new_slot, MOST_UNDO_PARTS}
use Rattle.redo_model.specs.Records.{Record}
use Rattle.redo_model.specs.Model.{holds_row, image as image_in, slot_count, undo_held, image_at as image_seen, commit_count}
use Rattle.undo_block.specs.Types.{UndoPage}
use Rattle.txn_block.specs.Types.{TxnTable}
use Rattle.version_laws.specs.Types.{HoldsTable, HoldsUndo, HoldsRows, chain_end, Found, Lost, Unknown as UnknownEnd}
use Rattle.redo_model.proofs.Bridge.{image_is, count_is}
use Rattle.row_block.specs.Types.{RowPage}
use Rattle.version_laws.proofs.EndLaw.{now_is_found}
use Rattle.version_read.specs.declared.version.Tells.{Tells}
use Rattle.version_read.specs.declared.version.Tells.TheVariants.{Counts, Passes, Unknown}
use Rattle.version_read.specs.declared.version.Version.{Version}
use Rattle.version_read.specs.Looking.{tells, Looks, old_at, followed, NextOf, PartLeads}
use Rattle.version_read.specs.Walking.{txn_or_none, IsReader, Reaches, LeadsDown, StandsAt, Shows, Finds, Goes, IsLent, IsGiven, EndsIn}
use Rattle.version_read.proofs.Stepping.{is_open, EndAt, begins, at_image, held_part, at_part, at_lost, sees_row, sees_none, is_refused, is_refused_entry}
use Rattle.version_read.specs.declared.version.Version.TheVariants as version
use Rattle.version_read.specs.declared.chain.Seen as seens
use Rattle.version_read.specs.declared.chain.Seen.TheVariants as seen
use Rattle.version_read.specs.declared.chain.Next as nexts
use Rattle.version_read.specs.declared.chain.Next.TheVariants as next

-- ---- look

looked : (sh : Shape) (R : List Record) (b k s : ℕ) (own : Option ℕ) (i : Slot) (x : Tells) (v : Version) → EndAt sh R b k s (txn_or_none own) 0 (MOST_UNDO_PARTS * sh.undo) i x → Looks x i v → Shows sh R b k s own v
looked sh R b k s own i Counts (version.Row r) e l = sees_row R b k s (txn_or_none own) r.now (e ∙ ap (λ (j : Slot). Found j) (sym l.0)) (ap (λ (j : Slot). holds_row j.kind) l.0 ∙ l.1)
looked sh R b k s own i Counts version.Nothing e l = sees_none R b k s (txn_or_none own) i e l
looked sh R b k s own i Counts (version.Step a) e l = absurd l
looked sh R b k s own i Counts (version.TooOldEntry u) e l = absurd l
looked sh R b k s own i Passes (version.Row r) e l = absurd l
looked sh R b k s own i Passes version.Nothing e l = absurd (e.1 l)
looked sh R b k s own i Passes (version.Step a) e l = e.0 a l
looked sh R b k s own i Passes (version.TooOldEntry u) e l = absurd l
looked sh R b k s own i (Unknown t) (version.Row r) e l = absurd l
looked sh R b k s own i (Unknown t) version.Nothing e l = absurd l
looked sh R b k s own i (Unknown t) (version.Step a) e l = absurd l
looked sh R b k s own i (Unknown t) (version.TooOldEntry u) e l = is_refused_entry R b k s (txn_or_none own) u (e ∙ ap (λ (n : ℕ). UnknownEnd n) (sym l))

pub slot_shows : (p : TxnTable) (s : ℕ) (own : Option ℕ) (i : Slot) (v : Version) → Looks (tells p s own i.writer) i v → (sh : Shape) (R : List Record) (b k : ℕ) → IsReader sh R own → HoldsTable R p → i ≡ image_in R b k → Shows sh R b k s own v
slot_shows p s own i v l sh R b k h t e =
    looked sh R b k s own i (tells p s own i.writer) v
    (at_image sh R b k s 0 (MOST_UNDO_PARTS * sh.undo) own p i h t (subst (Reaches sh R b k s (txn_or_none own) 0 (MOST_UNDO_PARTS * sh.undo)) (sym e) (begins sh R b k s own h))) l

-- ---- one part

image_leads : (sh : Shape) (R : List Record) (b k s n most : ℕ) (own : Option ℕ) (a : UndoAddr) (i : Slot) (x : Tells) (r : nexts.Next) → StandsAt sh R a i → EndAt sh R b k s (txn_or_none own) (n + 1) most i x → NextOf x i a r → Goes sh R b k s own n most r
image_leads sh R b k s n most own a i Counts (next.Done (seen.Row c)) at e l =
    subst (λ (z : UndoAddr). Finds sh R b k s own (seen.Row z)) (sym l.0) (record { image = i; stands = at; sees = sees_row R b k s (txn_or_none own) i e l.1 })
image_leads sh R b k s n most own a i Counts (next.Done seen.Nothing) at e l = sees_none R b k s (txn_or_none own) i e l
image_leads sh R b k s n most own a i Counts (next.Done (seen.TooOld c)) at e l = absurd l
image_leads sh R b k s n most own a i Counts (next.Done (seen.TooOldEntry u)) at e l = absurd l
image_leads sh R b k s n most own a i Counts (next.Below c) at e l = absurd l
image_leads sh R b k s n most own a i Passes (next.Done (seen.Row c)) at e l = absurd l
image_leads sh R b k s n most own a i Passes (next.Done seen.Nothing) at e l = absurd (e.1 l)
image_leads sh R b k s n most own a i Passes (next.Done (seen.TooOld c)) at e l = absurd l
image_leads sh R b k s n most own a i Passes (next.Done (seen.TooOldEntry u)) at e l = absurd l
image_leads sh R b k s n most own a i Passes (next.Below c) at e l = e.0 c l
image_leads sh R b k s n most own a i (Unknown t) (next.Done (seen.Row c)) at e l = absurd l
image_leads sh R b k s n most own a i (Unknown t) (next.Done seen.Nothing) at e l = absurd l
image_leads sh R b k s n most own a i (Unknown t) (next.Done (seen.TooOld c)) at e l = absurd l
image_leads sh R b k s n most own a i (Unknown t) (next.Done (seen.TooOldEntry u)) at e l = is_refused_entry R b k s (txn_or_none own) u (e ∙ ap (λ (m : ℕ). UnknownEnd m) (sym l))
image_leads sh R b k s n most own a i (Unknown t) (next.Below c) at e l = absurd l

pub part_goes : (sh : Shape) (R : List Record) (b k s n most : ℕ) (own : Option ℕ) (p : TxnTable) (u : UndoPage) (a : UndoAddr) (more : Bool) (o : Option nexts.Next) → IsReader sh R own → HoldsTable R p → HoldsUndo R a.block u → LeadsDown sh R b k s (txn_or_none own) n most a
    → (more ≡ false → most ≤ n) → PartLeads p u a s own more o → MatchOption o ⊥ (Goes sh R b k s own n most)
part_goes sh R b k s n most own p u a more o h t v l m g = elim (cases_Bool (eqb a.seq u.sequence)) [
  | inr d ↦
      let lost : o ≡ Some (next.Done (seen.TooOld a)) = subst (λ (z : Bool). cond z (cond more (MatchOption (old_at u.parts a.nth) (o ≡ None) (λ i. MatchOption o ⊥ (NextOf (tells p s own i.writer) i a))) (o ≡ None)) (o ≡ Some (next.Done (seen.TooOld a)))) d g in
      subst (λ (x : Option nexts.Next). MatchOption x ⊥ (Goes sh R b k s own n most)) (sym lost) (is_refused R b k s (txn_or_none own) a (at_lost sh R b k s (txn_or_none own) n most u a h.allowed v l (eqb-false a.seq u.sequence d)))
  | inl y ↦
      let w = at_part sh R b k s (txn_or_none own) n most u a h.allowed v l (eqb-true a.seq u.sequence y) in
      let g1 = subst (λ (z : Bool). cond z (cond more (MatchOption (old_at u.parts a.nth) (o ≡ None) (λ i. MatchOption o ⊥ (NextOf (tells p s own i.writer) i a))) (o ≡ None)) (o ≡ Some (next.Done (seen.TooOld a)))) y g in
      let on : more ≡ true = elim (cases_Bool more) [ inl q ↦ q | inr f ↦ absurd (let x = m f in let z = w.more in omega (arith, x, z)) ] in
      let g2 = subst (λ (z : Bool). cond z (MatchOption (old_at u.parts a.nth) (o ≡ None) (λ i. MatchOption o ⊥ (NextOf (tells p s own i.writer) i a))) (o ≡ None)) on g1 in
      let g3 = subst (λ (x : Option Slot). MatchOption x (o ≡ None) (λ i. MatchOption o ⊥ (NextOf (tells p s own i.writer) i a))) w.there g2 in
      some_leads w.old o (at_image sh R b k s (n + 1) most own p w.old h t w.reaches) w.stands g3
]
  where
    some_leads : (i : Slot) (x : Option nexts.Next) → EndAt sh R b k s (txn_or_none own) (n + 1) most i (tells p s own i.writer) → StandsAt sh R a i → MatchOption x ⊥ (NextOf (tells p s own i.writer) i a) → MatchOption x ⊥ (Goes sh R b k s own n most)
    some_leads i None e at q = q
    some_leads i (Some r) e at q = image_leads sh R b k s n most own a i (tells p s own i.writer) r at e q

-- ---- the image at an address

pub follows_there : (sh : Shape) (R : List Record) (u : UndoPage) (a : UndoAddr) (i : Slot) → HoldsUndo R a.block u → StandsAt sh R a i → followed u a ≡ Some i
follows_there sh R u a i v h =
    cond-true (eqb a.seq u.sequence) (old_at u.parts a.nth) None (eq-eqb a.seq u.sequence (h.present ∙ sym v.sequence))
    ∙ held_part (undo_held R a.block) a.nth u.parts v.parts ∙ h.old

pub ends_lent : (lent : ℕ → Type 0) (u : ℕ) (f : seens.Seen) → EndsIn u (next.Done f) → lent u → IsLent lent f
ends_lent lent u (seen.Row a) e l = subst lent e l
ends_lent lent u seen.Nothing e l = tt
ends_lent lent u (seen.TooOld a) e l = tt
ends_lent lent u (seen.TooOldEntry t) e l = tt

-- ---- at all commits

abbrev pub FindsNow : List Record → ℕ → ℕ → ℕ → Option ℕ → Type 0
FindsNow R b k s own = chain_end R b k s (txn_or_none own) ≡ Found (image_seen R b k s (txn_or_none own))

found_now : (sh : Shape) (R : List Record) (b k s : ℕ) (own : Option ℕ) → IsReader sh R own → commit_count R ≤ s → FindsNow R b k s own
found_now sh R b k s own h l = now_is_found sh R b k s (txn_or_none own) h.allowed l (is_open R own h.reader)

pub given_now : (sh : Shape) (R : List Record) (b k s : ℕ) (own : Option ℕ) (f : seens.Seen) → IsReader sh R own → commit_count R ≤ s → Finds sh R b k s own f → IsGiven f
given_now sh R b k s own (seen.Row a) h l x = tt
given_now sh R b k s own seen.Nothing h l x = tt
given_now sh R b k s own (seen.TooOld a) h l x = not_lost _ a (sym (found_now sh R b k s own h l) ∙ x.ends)
  where
    not_lost : (i : Slot) (a : UndoAddr) → Found i ≡ Lost a → ⊥
    not_lost i a e = cc
given_now sh R b k s own (seen.TooOldEntry u) h l x = not_unknown _ u (sym (found_now sh R b k s own h l) ∙ x.ends)
  where
    not_unknown : (i : Slot) (u : ℕ) → Found i ≡ UnknownEnd u → ⊥
    not_unknown i u e = cc

-- ---- a slot of a row block

slot_is : (ss : List Slot) (n : ℕ) (i : Slot) → ◌≡◌ {A = Option Slot} (Some i) (if nat_lt n (length ss) then Some (get_or ss n new_slot) else None) → i ≡ get_or ss n new_slot
slot_is ss n i e = elim (cases_Bool (nat_lt n (length ss))) [
  | inl y ↦ (let z : ◌≡◌ {A = Option Slot} (Some i) (Some (get_or ss n new_slot)) = e ∙ cond-true _ _ _ y in cc)
  | inr f ↦ absurd (let z : ◌≡◌ {A = Option Slot} (Some i) None = e ∙ cond-false _ _ _ f in cc)
]

pub image_there : (R : List Record) (b n : ℕ) (p : RowPage) (i : Slot) → HoldsRows R b p → ◌≡◌ {A = Option Slot} (Some i) (if nat_lt n (length p.block.slots) then Some (get_or p.block.slots n new_slot) else None) → i ≡ image_in R b n
image_there R b n p i h e = slot_is p.block.slots n i e ∙ ap (λ (x : Block). get_or x.slots n new_slot) h.block ∙ image_is R b n

count_of : (R : List Record) (b : ℕ) (p : RowPage) → HoldsRows R b p → length p.block.slots ≡ slot_count R b
count_of R b p h = ap (λ (x : Block). length x.slots) h.block ∙ count_is R b

pub some_there : (R : List Record) (b n : ℕ) (p : RowPage) (i : Slot) → HoldsRows R b p → ◌≡◌ {A = Option Slot} (Some i) (if nat_lt n (length p.block.slots) then Some (get_or p.block.slots n new_slot) else None) → n < slot_count R b
some_there R b n p i h e = elim (cases_Bool (nat_lt n (length p.block.slots))) [
  | inl y ↦ (let c = count_of R b p h in let l = ltb-true n (length p.block.slots) y in omega (arith, c, l))
  | inr f ↦ absurd (let z : ◌≡◌ {A = Option Slot} (Some i) None = e ∙ cond-false _ _ _ f in cc)
]

pub none_there : (R : List Record) (b n : ℕ) (p : RowPage) → HoldsRows R b p → ◌≡◌ {A = Option Slot} None (if nat_lt n (length p.block.slots) then Some (get_or p.block.slots n new_slot) else None) → n < slot_count R b → ⊥
none_there R b n p h e l =
    let c = count_of R b p h in
    let y = lt-ltb n (length p.block.slots) (omega (arith, c, l)) in
    let z : ◌≡◌ {A = Option Slot} None (Some (get_or p.block.slots n new_slot)) = e ∙ cond-true _ _ _ y in cc
