-- The writes of a head, over bytes and over plain disks.
use Rattle.std.proofs.Common.{◌≡◌, ◌≢◌, inl, inr, ℕ, ◌-◌, ◌<◌, ◌≤◌, true, false, List, [], ◌∷◌, ◌++◌, replicate, length, drop, get_or, refl, sym, ◌∙◌, ap, subst, arith}
use Rattle.seg_words.proofs.Lemmas.{drop_more, cases_eq, nat_tests}
use Rattle.seg_words.specs.Types.{Shape, is_shape, FIRST_GATE, LOG_HEAD_SIZE}
use Rattle.disk_model.specs.Types.{written, Torn, Meaning, Leaves, OnlyFile, IsPut}
use Rattle.disk_model.specs.declared.disk.File.TheVariants.{Log}
use Rattle.disk_model.proofs.Lemmas.{only_weaker}
use Rattle.log_frame.specs.Types.{head_body, is_formatted, Begins, IsLog, IsClosed, EmptyOrNone, Settles, Leads}
use Rattle.log_frame.proofs.Groups.{begins_torn, begins_written}
use Rattle.log_frame.proofs.Steps.{then_put, then_run, only_run}

pub closed_not : (bytes : List ℕ) → IsClosed bytes → is_formatted bytes ≡ false
closed_not bytes closed =
    let first : get_or bytes 0 0 ≢ 1 = λ one. closed.shut (sym (ap (λ (l : List ℕ). get_or l 0 0) closed.is) ∙ one) in
    grind (arith, nat_tests, first)

begun : (bytes : List ℕ) (closed : IsClosed bytes) → Begins (closed.gate ∷ []) bytes
begun bytes closed = record { rest = closed.rest; is = closed.is }

-- a torn write behind the head's gate leaves it closed
closed_torn : (old new : List ℕ) (at n : ℕ) → 1 ≤ at → IsClosed old → Torn at n old new → IsClosed new
closed_torn old new at n le closed torn =
    let begins = begins_torn (closed.gate ∷ []) old new at n le (begun old closed) torn in
    record { gate = closed.gate; shut = closed.shut; rest = begins.rest; is = begins.is }

-- the head stands whole behind its closed gate
pub record IsHeaded (shape : Shape) (bytes : List ℕ) : Type 0 where
  pub gate : ℕ
  pub shut : gate ≢ 1
  pub begins : Begins (gate ∷ head_body shape ++ 0 ∷ []) bytes

headed : (shape : Shape) (old : List ℕ) → IsClosed old → IsHeaded shape (written old 1 (head_body shape ++ 0 ∷ []))
headed shape old closed = record {
  gate = closed.gate;
  shut = closed.shut;
  begins = begins_written (closed.gate ∷ []) old (head_body shape ++ 0 ∷ []) 1 refl (begun old closed);
}

module _ (shape : Shape) (old : List ℕ) (within : is_shape shape ≡ true) (stage : IsHeaded shape old) where
  behind : List ℕ
  behind = head_body shape ++ 0 ∷ [] ++ stage.begins.rest

  rest_is : drop 1 old ≡ behind
  unfolding behind
  rest_is = ap (drop 1) stage.begins.is

  -- opening the gate makes the empty log
  opened : (new : List ℕ) → new ≡ 1 ∷ behind → IsLog shape [] new
  unfolding behind
  opened new is = record {
    within = within;
    payloads = tt;
    stands = record { gate = 0; shut = omega arith; begins = record { rest = stage.begins.rest; is = is } };
  }

  torn_gate : (new : List ℕ) → Torn 0 1 old new → EmptyOrNone shape new
  torn_gate new torn =
      let some : 0 < length new = omega (arith, torn.no_shorter, ap length stage.begins.is) in
      let is : new ≡ get_or new 0 0 ∷ behind = drop_more new 0 0 some ∙ ap (λ (l : List ℕ). get_or new 0 0 ∷ l) (torn.after ∙ rest_is) in
      elim (cases_eq (get_or new 0 0) 1) [
        | inl one ↦ inr (opened new (is ∙ ap (λ (n : ℕ). n ∷ behind) one))
        | inr not_one ↦ inl (closed_not new (record { gate = get_or new 0 0; shut = not_one; rest = behind; is = is }))
      ]

  written_gate : IsLog shape [] (written old 0 (1 ∷ []))
  written_gate = opened (written old 0 (1 ∷ [])) (ap (λ (n : ℕ). replicate n 0 ++ 1 ∷ [] ++ drop 1 old) none ∙ ap (λ (l : List ℕ). 1 ∷ l) rest_is)
    where
      none : 0 - length old ≡ 0
      none = omega arith

module _ {D : Type 0} (meaning : Meaning D) (shape : Shape) (within : is_shape shape ≡ true) (d0 d1 d2 : D) (closed : Settles meaning d0 d1 IsClosed) where
  pub body_run : Leaves meaning d0 d1 (OnlyFile meaning d0 Log (λ (b : List ℕ). is_formatted b ≡ false)) → Leaves meaning d1 d2 (OnlyFile meaning d1 Log (Torn 1 (LOG_HEAD_SIZE - 1) (meaning.files d1).log_bytes))
      → Leaves meaning d0 d2 (OnlyFile meaning d0 Log (EmptyOrNone shape))
  body_run so_far leaves =
      let None_yet : List ℕ → Type 0 = λ (b : List ℕ). is_formatted b ≡ false in
      let mid = (meaning.files d1).log_bytes in
      then_run meaning d0 d1 d2 IsClosed (Torn 1 (LOG_HEAD_SIZE - 1) mid) (EmptyOrNone shape) closed (only_run meaning d0 d1 None_yet (EmptyOrNone shape) so_far (λ b is. inl is)) leaves
      (λ b torn. inl (closed_not b (closed_torn mid b 1 (LOG_HEAD_SIZE - 1) (omega arith) closed.holds torn)))

  pub body_put : IsPut meaning d1 d2 Log (written (meaning.files d1).log_bytes 1 (head_body shape ++ 0 ∷ [])) → Settles meaning d0 d2 (IsHeaded shape)
  body_put is_put = then_put meaning d0 d1 d2 IsClosed (IsHeaded shape) (written (meaning.files d1).log_bytes 1 (head_body shape ++ 0 ∷ [])) closed is_put (headed shape (meaning.files d1).log_bytes closed.holds)

module _ {D : Type 0} (meaning : Meaning D) (shape : Shape) (within : is_shape shape ≡ true) (d0 d2 d3 : D) (stage : Settles meaning d0 d2 (IsHeaded shape)) where
  pub gate_run : Leaves meaning d0 d2 (OnlyFile meaning d0 Log (EmptyOrNone shape)) → Leaves meaning d2 d3 (OnlyFile meaning d2 Log (Torn 0 1 (meaning.files d2).log_bytes)) → Leaves meaning d0 d3 (OnlyFile meaning d0 Log (EmptyOrNone shape))
  gate_run so_far leaves =
      let mid = (meaning.files d2).log_bytes in
      then_run meaning d0 d2 d3 (IsHeaded shape) (Torn 0 1 mid) (EmptyOrNone shape) stage so_far leaves (λ b torn. torn_gate shape mid within stage.holds b torn)

  pub gate_put : IsPut meaning d2 d3 Log (written (meaning.files d2).log_bytes 0 (1 ∷ [])) → Leads meaning d0 d3 shape [] FIRST_GATE
  gate_put is_put =
      let mid = (meaning.files d2).log_bytes in
      let Empty = IsLog shape [] in
      let there = then_put meaning d0 d2 d3 (IsHeaded shape) Empty (written mid 0 (1 ∷ [])) stage is_put (written_gate shape mid within stage.holds) in
      record {
        ready = record { settled = there.settled; log = there.holds; at_end = refl };
        data_stays = there.data_stays;
        images = λ image is. only_weaker meaning d0 Log (λ (b : List ℕ). b ≡ (meaning.files d3).log_bytes) Empty (λ b same. subst Empty (sym same) there.holds) image (there.images image is);
      }
