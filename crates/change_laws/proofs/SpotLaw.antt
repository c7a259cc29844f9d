-- Where the undo of a change goes, and that its records are allowed there.
use Rattle.std.proofs.Common.{◌≡◌, ℕ, suc, ◌+◌, ◌≤◌, Bool, true, false, cond, not, ltb, List, [], ◌∷◌, length, map, find, sum_by, MatchOption, Option, Some, None, refl, sym, ◌∙◌, ap, ap₂, subst, arith, inl, inr, true≢false, eq-eqb, le-ltb, ltb-true, ltb-false}
use Rattle.seg_words.proofs.Lemmas.{cases_Bool, cond-true, not-true}
use Rattle.seg_words.specs.Types.{Shape, UndoAddr, BLOCK_ROOM, OWN_BLOCKS, UNDO_PART_SIZE}
use Rattle.redo_model.specs.Records.{Record, Move, Table, Begin, Reuse, Insert, Update, Migrate, Return, Delete, RowPart, RowBody, ReuseRecord}
use Rattle.redo_model.specs.Model.{effect_of, Undone, undo_parts, undo_used, undo_sequence, undo_holder, has_holder, current_undo, ring_after, next_undo, parts_size, fits_undo, IsUndoFull, StatesUndo, IsOverflow, IsCalledFor, IsKindAllowed, is_whole, IsLawful}
use Rattle.redo_laws.proofs.allowed.Basics.{basics}
use Rattle.version_laws.specs.Types.{begin_of}
use Rattle.change_laws.specs.Drafts.{RowKind, Inserts, Updates, Migrates, Returns, Deletes, as_record, Fill, Change, part_of, parts_of, fills_size, change_size, body_at, record_of, reuse_of}
use Rattle.change_laws.specs.Ready.{IsReady}
use Rattle.change_laws.specs.Spots.{Spot, UndoNext, StatesAt, SpotsState, spot_for, Here, Next, Full, holder_pair, holder_pairs, undo_end, undo_start, spot_past, spot_by, IsFull}
use Rattle.change_laws.specs.Allowed.{BeginsAreLawful, LawfulAt, ChangesAreLawful, FullIsTold}

-- after a whole list any record may come, and after a row record any other

called : (R : List Record) (r : Record) → is_whole R ≡ true → IsCalledFor R r
called [] r h = tt
called (Table t ∷ R) r h = absurd (true≢false (sym h))
called (Reuse q ∷ R) r h = absurd (true≢false (sym h))
called (_ ∷ R) r h = tt

row_whole : (k : RowKind) (w : RowBody) (R : List Record) → is_whole (as_record k w ∷ R) ≡ true
row_whole Inserts w R = refl
row_whole Updates w R = refl
row_whole Migrates w R = refl
row_whole Returns w R = refl
row_whole Deletes w R = refl

row_called : (k : RowKind) (w : RowBody) (R : List Record) → IsUndoFull R w.parts → IsOverflow R (effect_of (as_record k w))
row_called Inserts w R h = h
row_called Updates w R h = h
row_called Migrates w R h = h
row_called Returns w R h = h
row_called Deletes w R h = h

row_undo : (sh : Shape) (R : List Record) (k : RowKind) (w : RowBody) → IsKindAllowed sh R (as_record k w) → StatesUndo R w.undo w.parts
row_undo sh R Inserts w a = (basics sh R (Insert w) a).undo
row_undo sh R Updates w a = (basics sh R (Update w) a).undo
row_undo sh R Migrates w a = (basics sh R (Migrate w) a).undo
row_undo sh R Returns w a = (basics sh R (Return w) a).undo
row_undo sh R Deletes w a = (basics sh R (Delete w) a).undo

-- sizes

parts_need : (R : List Record) (t : ℕ) (a : UndoAddr) (i : ℕ) (fs : List Fill) → parts_size (parts_of R t a i fs) ≡ fills_size R fs
parts_need R t a i [] = refl
parts_need R t a i (f ∷ fs) = ap (λ n. (UNDO_PART_SIZE + length (part_of R t a i f).old.bytes) + n) (parts_need R t a (suc i) fs)

pub reuse_need : (R : List Record) (q : ReuseRecord) (fs : List Fill) → fills_size (Reuse q ∷ R) fs ≡ fills_size R fs
reuse_need R q [] = refl
reuse_need R q (f ∷ fs) = ap (λ n. (UNDO_PART_SIZE + length (part_of R 0 (undo_start q) 0 f).old.bytes) + n) (reuse_need R q fs)

-- in the current block

here_states : (R : List Record) (u need : ℕ) → current_undo R ≡ Some u → ltb BLOCK_ROOM (undo_used R u + need) ≡ false → (ps : List RowPart) → parts_size ps ≡ need → StatesUndo R (undo_end R u) ps
here_states R u need e f ps s = record { current = e; sequence = refl; place = refl; fits = ap (λ n. not (ltb BLOCK_ROOM (undo_used R u + n))) s ∙ ap not f }

-- after a Reuse

abbrev Over : List Record → ℕ → Type 0
Over R need = MatchOption (current_undo R) (Unit {0}) (λ u. ltb BLOCK_ROOM (undo_used R u + need) ≡ true)

over_full : (R : List Record) (ps : List RowPart) (need : ℕ) → parts_size ps ≡ need → Over R need → IsUndoFull R ps
over_full R ps need e h = go (current_undo R) h
  where
    go : (o : Option ℕ) → MatchOption o (Unit {0}) (λ u. ltb BLOCK_ROOM (undo_used R u + need) ≡ true) → MatchOption o (Unit {0}) (λ u. fits_undo R ps u ≡ false)
    go None x = tt
    go (Some u) x = ap (λ n. not (ltb BLOCK_ROOM (undo_used R u + n))) e ∙ ap not x

next_states : (R : List Record) (b need : ℕ) → need ≤ BLOCK_ROOM → (ps : List RowPart) → parts_size ps ≡ need → StatesUndo (Reuse (reuse_of R b) ∷ R) (undo_start (reuse_of R b)) ps
next_states R b need l ps s =
    let q = reuse_of R b in
    let empty : undo_parts (Reuse q ∷ R) b ≡ [] = cond-true _ [] (undo_parts R b) (eq-eqb b b refl) in
    let none : undo_used (Reuse q ∷ R) b ≡ 0 = ap (λ (us : List Undone). sum_by (λ (x : Undone). x.size) us) empty in
    record {
      current = refl;
      sequence = sym (cond-true _ (suc (undo_sequence R b)) (undo_sequence R b) (eq-eqb b b refl));
      place = sym (ap (λ (us : List Undone). length us) empty);
      fits = ap₂ (λ (m n : ℕ). not (ltb BLOCK_ROOM (m + n))) none s ∙ ap not (le-ltb BLOCK_ROOM (0 + need) (omega (arith, l)));
    }

undo_next : (sh : Shape) (R : List Record) (b need : ℕ) → IsLawful sh R → need ≤ BLOCK_ROOM → next_undo sh R ≡ Some b → Over R need → UndoNext sh R need (reuse_of R b)
undo_next sh R b need l s n o = record {
  reuse = record { called_for = called R (Reuse (reuse_of R b)) l.whole; kind = record { block = record { next = n }; sequence = refl } };
  called = λ ps e. over_full R ps need e o;
  states = next_states R b need s;
}

-- nowhere

record Held (R : List Record) (bs : List ℕ) (hs : List (ℕ × ℕ)) : Type 0 where
  blocks : map (λ (p : ℕ × ℕ). p.0) hs ≡ bs
  holders : map (λ (p : ℕ × ℕ). Some p.1) hs ≡ map (undo_holder R) bs

not_found : (b : ℕ) → ◌≡◌ {A = Option ℕ} (Some b) None → ⊥
not_found b e = cc

held_more : (R : List Record) (b : ℕ) (bs : List ℕ) (hs : List (ℕ × ℕ)) (o : Option ℕ) → undo_holder R b ≡ o → cond (not (elim o as (λ _. Bool) [ None ↦ false | Some t ↦ true ])) (Some b) (find (λ d. not (has_holder R d)) bs) ≡ None
    → (find (λ d. not (has_holder R d)) bs ≡ None → Held R bs hs) → Held R (b ∷ bs) (holder_pair b o hs)
held_more R b bs hs None e h f = absurd (not_found b h)
held_more R b bs hs (Some t) e h f = let x = f h in record { blocks = ap (λ (ys : List ℕ). b ∷ ys) x.blocks; holders = ap₂ (λ (o : Option ℕ) (ys : List (Option ℕ)). o ∷ ys) (sym e) x.holders }

all_held : (R : List Record) (bs : List ℕ) → find (λ d. not (has_holder R d)) bs ≡ None → Held R bs (holder_pairs R bs)
all_held R [] h = record { blocks = refl; holders = refl }
all_held R (b ∷ bs) h = held_more R b bs (holder_pairs R bs) (undo_holder R b) refl h (λ x. all_held R bs x)

ring_free : (sh : Shape) (R : List Record) (u : ℕ) → current_undo R ≡ Some u → next_undo sh R ≡ find (λ b. not (has_holder R b)) (ring_after sh u)
ring_free sh R u e = ap (λ (o : Option ℕ). elim o as (λ x. Option ℕ) [ None ↦ Some OWN_BLOCKS | Some v ↦ find (λ b. not (has_holder R b)) (ring_after sh v) ]) e

same_block : (u v : ℕ) → ◌≡◌ {A = Option ℕ} (Some u) (Some v) → u ≡ v
same_block u v e = cc

no_room : (R : List Record) (u need : ℕ) (a : UndoAddr) (ps : List RowPart) → current_undo R ≡ Some u → 4033 ≤ undo_used R u + need → need ≤ parts_size ps → StatesUndo R a ps → ⊥
no_room R u need a ps e over more s =
    let same : a.block ≡ u = same_block a.block u (sym s.current ∙ e) in
    let fits : ltb BLOCK_ROOM (undo_used R u + parts_size ps) ≡ false = not-true (ltb BLOCK_ROOM (undo_used R u + parts_size ps)) (subst (λ b. fits_undo R ps b ≡ true) same s.fits) in
    true≢false (sym (past_room (undo_used R u + parts_size ps) (omega (arith, over, more))) ∙ fits)
  where
    past_room : (n : ℕ) → 4033 ≤ n → ltb BLOCK_ROOM n ≡ true
    past_room n l = elim (cases_Bool (ltb BLOCK_ROOM n)) [ inl y ↦ y | inr f ↦ absurd (let k = ltb_low n f in omega (arith, k, l)) ]
      where
        ltb_low : (n : ℕ) → ltb BLOCK_ROOM n ≡ false → n ≤ BLOCK_ROOM
        ltb_low n f = ltb-false BLOCK_ROOM n f

full_told : (sh : Shape) (R : List Record) (u need : ℕ) → current_undo R ≡ Some u → ltb BLOCK_ROOM (undo_used R u + need) ≡ true → next_undo sh R ≡ None → IsFull sh R need (holder_pairs R (ring_after sh u))
full_told sh R u need e o n =
    let held = all_held R (ring_after sh u) (sym (ring_free sh R u e) ∙ n) in
    let over : 4033 ≤ undo_used R u + need = (let x = ltb-true BLOCK_ROOM (undo_used R u + need) o in omega (arith, x)) in
    record {
      block = u;
      current = e;
      over = over;
      blocks = held.blocks;
      holders = held.holders;
      no_reuse = λ q a. none_next q.block (sym a.kind.block.next ∙ n);
      no_record = λ k w more a. no_room R u need w.undo w.parts e over more (row_undo sh R k w a.kind);
      no_move = λ m more a. no_room R u need m.undo m.parts e over more (basics sh R (Move m) a.kind).undo;
    }
  where
    none_next : (b : ℕ) → ◌≡◌ {A = Option ℕ} (Some b) None → ⊥
    none_next b e = cc

-- by cases

first_next : (sh : Shape) (R : List Record) → current_undo R ≡ None → next_undo sh R ≡ Some OWN_BLOCKS
first_next sh R e = ap (λ (o : Option ℕ). elim o as (λ x. Option ℕ) [ None ↦ Some OWN_BLOCKS | Some v ↦ find (λ b. not (has_holder R b)) (ring_after sh v) ]) e

over_none : (R : List Record) (need : ℕ) → current_undo R ≡ None → Over R need
over_none R need e = subst (λ (o : Option ℕ). MatchOption o (Unit {0}) (λ u. ltb BLOCK_ROOM (undo_used R u + need) ≡ true)) (sym e) tt

over_some : (R : List Record) (u need : ℕ) → current_undo R ≡ Some u → ltb BLOCK_ROOM (undo_used R u + need) ≡ true → Over R need
over_some R u need e o = subst (λ (x : Option ℕ). MatchOption x (Unit {0}) (λ v. ltb BLOCK_ROOM (undo_used R v + need) ≡ true)) (sym e) o

past_states : (sh : Shape) (R : List Record) (u need : ℕ) → IsLawful sh R → need ≤ BLOCK_ROOM → current_undo R ≡ Some u → ltb BLOCK_ROOM (undo_used R u + need) ≡ true → (n : Option ℕ) → next_undo sh R ≡ n → StatesAt sh R need (spot_past R n (holder_pairs R (ring_after sh u)))
past_states sh R u need l s e o None n = full_told sh R u need e o n
past_states sh R u need l s e o (Some b) n = undo_next sh R b need l s n (over_some R u need e o)

by_states : (sh : Shape) (R : List Record) (need : ℕ) → IsLawful sh R → need ≤ BLOCK_ROOM → (o : Option ℕ) → current_undo R ≡ o → StatesAt sh R need (spot_by sh R need o)
by_states sh R need l s None e = subst (λ (n : Option ℕ). StatesAt sh R need (spot_past R n [])) (sym (first_next sh R e)) (undo_next sh R OWN_BLOCKS need l s (first_next sh R e) (over_none R need e))
by_states sh R need l s (Some u) e =
    (elim (ltb BLOCK_ROOM (undo_used R u + need)) as (λ v. ltb BLOCK_ROOM (undo_used R u + need) ≡ v → StatesAt sh R need (cond v (spot_past R (next_undo sh R) (holder_pairs R (ring_after sh u))) (Here (undo_end R u)))) [
      | true ↦ λ o. past_states sh R u need l s e o (next_undo sh R) refl
      | false ↦ λ f. here_states R u need e f
    ]) refl

pub spots_state : SpotsState
spots_state sh R need l s = by_states sh R need l s (current_undo R) refl

-- the records of a change

change_at : (sh : Shape) (R : List Record) (t : ℕ) (c : Change) (s : Spot) → IsLawful sh R → IsReady sh R t c → StatesAt sh R (change_size R c) s → LawfulAt sh R t c s
change_at sh R t c (Here a) l r x = record {
  allowed = (l.allowed, record { called_for = called R (record_of R t a c) l.whole; kind = r.now a (x (parts_of R t a 0 c.fills) (parts_need R t a 0 c.fills)) });
  whole = row_whole c.kind (body_at R t a c) R;
}
change_at sh R t c (Next q) l r x =
    let w = body_at (Reuse q ∷ R) t (undo_start q) c in
    let size : parts_size w.parts ≡ change_size R c = parts_need (Reuse q ∷ R) t (undo_start q) 0 c.fills ∙ reuse_need R q c.fills in
    record {
      allowed = ((l.allowed, x.reuse), record { called_for = row_called c.kind w R (x.called w.parts size); kind = r.after q (undo_start q) (x.states w.parts size) });
      whole = row_whole c.kind w (Reuse q ∷ R);
    }
change_at sh R t c (Full hs) l r x = x

pub changes_are_lawful : ChangesAreLawful
changes_are_lawful sh R t c l r = change_at sh R t c (spot_for sh R (change_size R c)) l r (spots_state sh R (change_size R c) l r.small)

-- full is told, of whatever needs so much

next_not_full : (q : ReuseRecord) (hs : List (ℕ × ℕ)) → Next q ≡ Full hs → ⊥
next_not_full q hs e = cc

here_not_full : (a : UndoAddr) (hs : List (ℕ × ℕ)) → Here a ≡ Full hs → ⊥
here_not_full a hs e = cc

same_pairs : (hs is : List (ℕ × ℕ)) → Full hs ≡ Full is → hs ≡ is
same_pairs hs is e = cc

past_full : (sh : Shape) (R : List Record) (u need : ℕ) (hs : List (ℕ × ℕ)) → current_undo R ≡ Some u → ltb BLOCK_ROOM (undo_used R u + need) ≡ true → (n : Option ℕ) → next_undo sh R ≡ n → spot_past R n (holder_pairs R (ring_after sh u)) ≡ Full hs → IsFull sh R need hs
past_full sh R u need hs e o (Some b) n f = absurd (next_not_full (reuse_of R b) hs f)
past_full sh R u need hs e o None n f = subst (IsFull sh R need) (same_pairs (holder_pairs R (ring_after sh u)) hs f) (full_told sh R u need e o n)

by_full : (sh : Shape) (R : List Record) (need : ℕ) (hs : List (ℕ × ℕ)) → (o : Option ℕ) → current_undo R ≡ o → spot_by sh R need o ≡ Full hs → IsFull sh R need hs
by_full sh R need hs None e f = absurd (next_not_full (reuse_of R OWN_BLOCKS) hs (sym (ap (λ (n : Option ℕ). spot_past R n []) (first_next sh R e)) ∙ f))
by_full sh R need hs (Some u) e f =
    (elim (ltb BLOCK_ROOM (undo_used R u + need)) as (λ v. ltb BLOCK_ROOM (undo_used R u + need) ≡ v → cond v (spot_past R (next_undo sh R) (holder_pairs R (ring_after sh u))) (Here (undo_end R u)) ≡ Full hs → IsFull sh R need hs) [
      | true ↦ λ o g. past_full sh R u need hs e o (next_undo sh R) refl g
      | false ↦ λ o g. absurd (here_not_full (undo_end R u) hs g)
    ]) refl f

pub full_is_told : FullIsTold
full_is_told sh R need hs f = by_full sh R need hs (current_undo R) refl f

-- a Begin

pub begins_are_lawful : BeginsAreLawful
begins_are_lawful sh R who entry control l from to none takes = record {
  allowed = (l.allowed, record { called_for = called R (Begin (begin_of R who entry control)) l.whole; kind = record { number = refl; session_from = from; session_to = to; none_open = none; entry = takes } });
  whole = refl;
}
