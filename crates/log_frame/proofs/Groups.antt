-- What a write makes of a log's bytes.
use Rattle.std.proofs.Common.{◌≡◌, ◌≢◌, ◌⊎◌, inl, inr, ℕ, ◌+◌, ◌-◌, ◌<◌, ◌≤◌, min, List, [], ◌∷◌, ◌++◌, replicate, length, take, drop, get_or, refl, sym, ◌∙◌, ap, arith, w32, append_assoc, append-nil, length-append, take_at, drop_at, take-append-drop, take-take}
use Rattle.seg_words.specs.Types.{to_be_bytes, AllByRecursion, Shape, FIRST_GATE}
use Rattle.seg_words.proofs.Lemmas.{drop_more, flat_map_more, cases_eq}
use Rattle.disk_model.specs.Types.{written, Torn}
use Rattle.log_frame.specs.Types.{head, frame, frames, IsPayload, Begins, Stands, GROUP_HEAD_SIZE}

-- the group stands whole behind a closed gate
pub record IsStaged (first : List ℕ) (groups : List (List ℕ)) (payload bytes : List ℕ) : Type 0 where
  pub gate : ℕ
  pub shut : gate ≢ 1
  pub begins : Begins (first ++ frames groups ++ gate ∷ [] ++ (to_be_bytes w32 (length payload) ++ payload ++ 0 ∷ [])) bytes

-- A write behind the front leaves the front, torn or not.
pub begins_torn : (front old new : List ℕ) (at n : ℕ) → length front ≤ at → Begins front old → Torn at n old new → Begins front new
begins_torn front old new at n le begins torn =
    let k = length front in
    let long : k ≤ length old = omega (arith, ap length begins.is, length-append front begins.rest) in
    let was : take k old ≡ front = ap (take k) begins.is ∙ take_at front begins.rest k refl in
    let is : take k new ≡ front = sym (take-take k (min at (length old)) new (omega arith)) ∙ ap (take k) torn.before ∙ take-take k at old le ∙ was in
    record { rest = drop k new; is = sym (take-append-drop k new) ∙ ap (λ (l : List ℕ). l ++ drop k new) is }

-- A write right behind the front makes it longer.
pub begins_written : (front old bytes : List ℕ) (at : ℕ) → at ≡ length front → Begins front old → Begins (front ++ bytes) (written old at bytes)
begins_written front old bytes at same begins =
    let long : at ≤ length old = omega (arith, ap length begins.is, length-append front begins.rest) in
    let was : take at old ≡ front = ap (take at) begins.is ∙ take_at front begins.rest at (sym same) in
    let none : at - length old ≡ 0 = omega arith in
    record {
      rest = drop (at + length bytes) old;
      is = ap (λ (l : List ℕ). l ++ replicate (at - length old) 0 ++ bytes ++ drop (at + length bytes) old) was
          ∙ ap (λ (n : ℕ). front ++ replicate n 0 ++ bytes ++ drop (at + length bytes) old) none
          ∙ ap (λ (l : List ℕ). l ++ bytes ++ drop (at + length bytes) old) (append-nil front);
    }

-- where the closed gate stands
pub gate_at : (first : List ℕ) (groups : List (List ℕ)) (gate : ℕ) → length (first ++ frames groups ++ gate ∷ []) ≡ length (first ++ frames groups) + 1
gate_at first groups gate = length-append (first ++ frames groups) (gate ∷ [])

-- a torn write behind the closed gate leaves the groups as they were
pub stands_torn : (first : List ℕ) (groups : List (List ℕ)) (old new : List ℕ) (at n : ℕ) → at ≡ length (first ++ frames groups) + 1 → Stands first groups old → Torn at n old new → Stands first groups new
stands_torn first groups old new at n place stands torn = record {
  gate = stands.gate;
  shut = stands.shut;
  begins = begins_torn (first ++ frames groups ++ stands.gate ∷ []) old new at n (omega (arith, place, gate_at first groups stands.gate)) stands.begins torn;
}

-- the whole write stages the group
pub staged : (first : List ℕ) (groups : List (List ℕ)) (payload old : List ℕ) (at : ℕ) → at ≡ length (first ++ frames groups) + 1 → Stands first groups old
    → IsStaged first groups payload (written old at (to_be_bytes w32 (length payload) ++ payload ++ 0 ∷ []))
staged first groups payload old at place stands = record {
  gate = stands.gate;
  shut = stands.shut;
  begins = begins_written (first ++ frames groups ++ stands.gate ∷ []) old (to_be_bytes w32 (length payload) ++ payload ++ 0 ∷ []) at (place ∙ sym (gate_at first groups stands.gate)) stands.begins;
}

-- What opening a gate makes of the log.
module _ (first : List ℕ) (groups : List (List ℕ)) (payload old : List ℕ) (stage : IsStaged first groups payload old) where
  abbrev pub before : List ℕ
  before = first ++ frames groups

  abbrev pub behind : List ℕ
  behind = to_be_bytes w32 (length payload) ++ payload ++ 0 ∷ stage.begins.rest

  old_is : old ≡ before ++ stage.gate ∷ behind
  old_is = stage.begins.is ∙ simp append_assoc

  -- what stands behind the gate
  rest_is : (at : ℕ) → length before ≡ at → drop (at + 1) old ≡ behind
  rest_is at same = ap (drop (at + 1)) (old_is ∙ sym (append_assoc before (stage.gate ∷ []) behind)) ∙ drop_at (before ++ stage.gate ∷ []) behind (at + 1) (omega (arith, length-append before (stage.gate ∷ [])))

  front_is : (at : ℕ) → length before ≡ at → take at old ≡ before
  front_is at same = ap (take at) old_is ∙ take_at before (stage.gate ∷ behind) at same

  pub opened : (new : List ℕ) → new ≡ before ++ 1 ∷ behind → Stands first (groups ++ payload ∷ []) new
  opened new is =
      let framed : before ++ 1 ∷ behind ≡ before ++ frame payload ++ 0 ∷ stage.begins.rest = simp append_assoc in
      record {
        gate = 0;
        shut = omega arith;
        begins = record {
          rest = stage.begins.rest;
          is = is ∙ framed ∙ ap (λ (l : List ℕ). l ++ 0 ∷ stage.begins.rest) (flat_map_more frame first groups payload) ∙ sym (append_assoc (first ++ frames (groups ++ payload ∷ [])) (0 ∷ []) stage.begins.rest);
        };
      }

  shut_still : (gate : ℕ) (new : List ℕ) → gate ≢ 1 → new ≡ before ++ gate ∷ behind → Stands first groups new
  shut_still gate new not_one is = record { gate = gate; shut = not_one; begins = record { rest = behind; is = is ∙ sym (append_assoc before (gate ∷ []) behind) } }

  pub torn_gate : (at : ℕ) (new : List ℕ) → length before ≡ at → Torn at 1 old new → Stands first groups new ⊎ Stands first (groups ++ payload ∷ []) new
  torn_gate at new same torn =
      let gate = get_or new at 0 in
      let long : at < length old = omega (arith, ap length old_is, length-append before (stage.gate ∷ behind)) in
      let front : take at new ≡ before = ap (λ (n : ℕ). take n new) (omega arith) ∙ torn.before ∙ front_is at same in
      let back : drop (at + 1) new ≡ behind = torn.after ∙ rest_is at same in
      let is : new ≡ before ++ gate ∷ behind = sym (take-append-drop at new) ∙ ap (λ (l : List ℕ). l ++ drop at new) front ∙ ap (λ (l : List ℕ). before ++ l) (drop_more new at 0 (omega (arith, torn.no_shorter)) ∙ ap (λ (l : List ℕ). gate ∷ l) back) in
      elim (cases_eq gate 1) [
        | inl one ↦ inr (opened new (is ∙ ap (λ (n : ℕ). before ++ n ∷ behind) one))
        | inr not_one ↦ inl (shut_still gate new not_one is)
      ]

  pub written_gate : (at : ℕ) → length before ≡ at → Stands first (groups ++ payload ∷ []) (written old at (1 ∷ []))
  written_gate at same =
      let none : at - length old ≡ 0 = omega (arith, ap length old_is, length-append before (stage.gate ∷ behind)) in
      opened (written old at (1 ∷ [])) (
      ap (λ (l : List ℕ). l ++ replicate (at - length old) 0 ++ 1 ∷ [] ++ drop (at + 1) old) (front_is at same)
      ∙ ap (λ (n : ℕ). before ++ replicate n 0 ++ 1 ∷ [] ++ drop (at + 1) old) none
      ∙ ap (λ (l : List ℕ). before ++ [] ++ 1 ∷ [] ++ l) (rest_is at same)
      ∙ simp (append_assoc, append-nil)
      )

  pub closed_before : Stands first groups old
  closed_before = shut_still stage.gate old stage.shut old_is

pub payloads_push : (groups : List (List ℕ)) (payload : List ℕ) → AllByRecursion IsPayload groups → IsPayload payload → AllByRecursion IsPayload (groups ++ payload ∷ [])
payloads_push [] payload all fits = (fits, tt)
payloads_push (g ∷ groups) payload all fits = (all.0, payloads_push groups payload all.1 fits)

pub length-frames_push : (groups : List (List ℕ)) (payload : List ℕ) → length (frames (groups ++ payload ∷ [])) ≡ length (frames groups) + GROUP_HEAD_SIZE + length payload
length-frames_push groups payload =
    let more : frames (groups ++ payload ∷ []) ≡ frames groups ++ frame payload = sym (flat_map_more frame [] groups payload) in
    let sized : length (frame payload) ≡ GROUP_HEAD_SIZE + length payload = omega (arith, length-append (to_be_bytes w32 (length payload)) payload) in
    omega (arith, ap length more, length-append (frames groups) (frame payload), sized)

pub length-head : (shape : Shape) → length (head shape) ≡ FIRST_GATE
length-head shape = refl
