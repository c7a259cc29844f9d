-- One record more of a payload.
use Rattle.std.proofs.Common.{◌≡◌, ℕ, suc, ◌+◌, ◌-◌, ◌<◌, ◌≤◌, List, [], ◌∷◌, ◌++◌, length, take, drop, reverse, slice_index, refl, sym, ◌∙◌, ap, arith, length-append, take-add, take_all, take_at, length-drop}
use Rattle.seg_words.proofs.Lemmas.{reverse-append}
use Rattle.redo_record.specs.declared.record.Record.{Record}
use Rattle.redo_record.specs.Spelling.{spelling}
use Rattle.redo_record.specs.Decoding.{StandsAt}
use Rattle.redo_log.specs.Kept.{spelled, AreSpelled}
use Rattle.redo_log.specs.Groups.{Breaks}
use Rattle.redo_log.specs.Found.{IsMore}

-- whole records up to a place, which were added to a list
pub record Read (payload : List ℕ) (place : ℕ) (old new : List Record) : Type 0 where
  pub newer : List Record
  pub whole : take place payload ≡ spelled newer
  pub spells : AreSpelled newer
  pub is : new ≡ newer ++ old
  pub within : place ≤ length payload

pub none_read : (payload : List ℕ) (old : List Record) → Read payload 0 old old
none_read payload old = record { newer = []; whole = refl; spells = tt; is = refl; within = omega arith }

pub further : (payload : List ℕ) (place next : ℕ) (rec : Record) → StandsAt rec payload place next → place < next
further payload place next rec stands = omega (arith, stands.ends)

reverse_push : (items : List Record) (rec : Record) → reverse (items ++ rec ∷ []) ≡ rec ∷ reverse items
reverse_push items rec = reverse-append items (rec ∷ [])

pub one_read : (payload : List ℕ) (place next : ℕ) (rec : Record) (old new items : List Record) → Read payload place old (reverse items) → StandsAt rec payload place next → new ≡ items ++ rec ∷ [] → Read payload next old (reverse new)
one_read payload place next rec old new items so_far stands pushed =
    let n = length (spelling rec) in
    let size : length (drop place payload) ≡ n + length (drop next payload) = ap (λ (l : List ℕ). length l) stands.spelled ∙ length-append (spelling rec) (drop next payload) in
    record {
      newer = rec ∷ so_far.newer;
      whole = ap (λ (k : ℕ). take k payload) stands.ends ∙ take-add place n payload ∙ ap (λ (l : List ℕ). take place payload ++ take n l) stands.spelled
          ∙ ap (λ (l : List ℕ). take place payload ++ l) (take_at (spelling rec) (drop next payload) n refl) ∙ ap (λ (l : List ℕ). l ++ spelling rec) so_far.whole;
      spells = (so_far.spells, stands.has);
      is = ap reverse pushed ∙ reverse_push items rec ∙ ap (λ (l : List Record). rec ∷ l) so_far.is;
      within = omega (arith, size, stands.ends, so_far.within, length-drop place payload, length-drop next payload);
    }

pub all_read : (payload : List ℕ) (place : ℕ) (old new : List Record) → length payload ≤ place → Read payload place old new → IsMore payload old new
all_read payload place old new le is = record { newer = is.newer; whole = sym (take_all place payload le) ∙ is.whole; spells = is.spells; is = is.is }

pub stops : (payload : List ℕ) (place : ℕ) (old new : List Record) → place < length payload → Read payload place old new → ((rec : Record) (next : ℕ) → StandsAt rec payload place next → ⊥) → Breaks payload place
stops payload place old new lt is none = record { front = is.newer; whole = is.whole; spells = is.spells; within = lt; none = none }
