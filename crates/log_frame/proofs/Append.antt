-- The two writes of a group, over plain disks.
use Rattle.std.proofs.Common.{◌≡◌, inl, inr, ⊎_elim, ℕ, ◌+◌, ◌-◌, ◌^◌, ◌<◌, ◌≤◌, List, [], ◌∷◌, ◌++◌, length, refl, sym, ap, subst, arith, length-append, w32}
use Rattle.seg_words.specs.Types.{to_be_bytes, Shape, FIRST_GATE}
use Rattle.disk_model.specs.Types.{written, Torn, AreShort, Meaning, Leaves, OnlyFile, IsPut}
use Rattle.disk_model.specs.declared.disk.File.TheVariants.{Log}
use Rattle.disk_model.proofs.Lemmas.{only_weaker}
use Rattle.log_frame.specs.Types.{head, frames, IsPayload, Stands, IsLog, WithOrWithout, IsReady, Settles, Leads, GROUP_HEAD_SIZE}
use Rattle.log_frame.proofs.Groups.{IsStaged, stands_torn, staged, torn_gate, written_gate, payloads_push, length-frames_push, length-head}
use Rattle.log_frame.proofs.Steps.{stays, then_put, then_run, only_run}

-- the closed gate lies within the bytes
pub log_longer : (shape : Shape) (groups : List (List ℕ)) (bytes : List ℕ) → IsLog shape groups bytes → FIRST_GATE + length (frames groups) < length bytes
log_longer shape groups bytes log =
    let stands = log.stands in
    omega (arith, ap length stands.begins.is, length-append (head shape ++ frames groups ++ stands.gate ∷ []) stands.begins.rest, length-append (head shape ++ frames groups) (stands.gate ∷ []), length-append (head shape) (frames groups), length-head shape)

module _ {D : Type 0} (meaning : Meaning D) (d0 : D) (shape : Shape) (groups : List (List ℕ)) (payload : List ℕ) (end : ℕ) (ready : IsReady meaning d0 shape groups end) where
  at_gate : length (head shape ++ frames groups) ≡ end
  at_gate = omega (arith, length-append (head shape) (frames groups), length-head shape, ready.at_end)

  -- there is room for the gate's number
  pub room : AreShort (meaning.files d0) → end + 1 ≤ 2 ^ 64 - 1
  room short = omega (arith, short.log_short, log_longer shape groups (meaning.files d0).log_bytes ready.log, ready.at_end)

  without : (b : List ℕ) → Stands (head shape) groups b → WithOrWithout shape groups payload b
  without b stands = inl (record { within = ready.log.within; payloads = ready.log.payloads; stands = stands })

  with_it : IsPayload payload → (b : List ℕ) → Stands (head shape) (groups ++ payload ∷ []) b → IsLog shape (groups ++ payload ∷ []) b
  with_it fits b stands = record { within = ready.log.within; payloads = payloads_push groups payload ready.log.payloads fits; stands = stands }

  pub first_run : (d1 : D) (at n : ℕ) → at ≡ end + 1 → Leaves meaning d0 d1 (OnlyFile meaning d0 Log (Torn at n (meaning.files d0).log_bytes)) → Leaves meaning d0 d1 (OnlyFile meaning d0 Log (WithOrWithout shape groups payload))
  first_run d1 at n place leaves =
      only_run meaning d0 d1 (Torn at n (meaning.files d0).log_bytes) (WithOrWithout shape groups payload) leaves
      (λ b torn. without b (stands_torn (head shape) groups (meaning.files d0).log_bytes b at n (omega (arith, place, at_gate)) ready.log.stands torn))

  pub group_staged : (d1 : D) (at : ℕ) → at ≡ end + 1 → IsPut meaning d0 d1 Log (written (meaning.files d0).log_bytes at (to_be_bytes w32 (length payload) ++ payload ++ 0 ∷ [])) → Settles meaning d0 d1 (IsStaged (head shape) groups payload)
  group_staged d1 at place is_put =
      let old = (meaning.files d0).log_bytes in
      let bytes = written old at (to_be_bytes w32 (length payload) ++ payload ++ 0 ∷ []) in
      let Same : List ℕ → Type 0 = λ (b : List ℕ). b ≡ old in
      then_put meaning d0 d0 d1 Same (IsStaged (head shape) groups payload) bytes (stays meaning d0 Same ready.settled refl) is_put
      (staged (head shape) groups payload old at (omega (arith, place, at_gate)) ready.log.stands)

  module _ (d1 d2 : D) (fits : IsPayload payload) (stage : Settles meaning d0 d1 (IsStaged (head shape) groups payload)) where
    pub second_run : Leaves meaning d0 d1 (OnlyFile meaning d0 Log (WithOrWithout shape groups payload)) → Leaves meaning d1 d2 (OnlyFile meaning d1 Log (Torn end 1 (meaning.files d1).log_bytes))
        → Leaves meaning d0 d2 (OnlyFile meaning d0 Log (WithOrWithout shape groups payload))
    second_run so_far leaves =
        let mid = (meaning.files d1).log_bytes in
        then_run meaning d0 d1 d2 (IsStaged (head shape) groups payload) (Torn end 1 mid) (WithOrWithout shape groups payload) stage so_far leaves
        (λ b torn. ⊎_elim (without b) (λ stands. inr (with_it fits b stands)) (torn_gate (head shape) groups payload mid stage.holds end b at_gate torn))

    pub added : (next : ℕ) → next ≡ end + GROUP_HEAD_SIZE + length payload → IsPut meaning d1 d2 Log (written (meaning.files d1).log_bytes end (1 ∷ [])) → Leads meaning d0 d2 shape (groups ++ payload ∷ []) next
    added next place is_put =
        let mid = (meaning.files d1).log_bytes in
        let Whole = IsLog shape (groups ++ payload ∷ []) in
        let there = then_put meaning d0 d1 d2 (IsStaged (head shape) groups payload) Whole (written mid end (1 ∷ [])) stage is_put (with_it fits (written mid end (1 ∷ [])) (written_gate (head shape) groups payload mid stage.holds end at_gate)) in
        record {
          ready = record { settled = there.settled; log = there.holds; at_end = omega (arith, length-frames_push groups payload, ready.at_end, place) };
          data_stays = there.data_stays;
          images = λ image is. only_weaker meaning d0 Log (λ (b : List ℕ). b ≡ (meaning.files d2).log_bytes) Whole (λ b same. subst Whole (sym same) there.holds) image (there.images image is);
        }

    -- the new place is a number
    pub room_after : IsPut meaning d1 d2 Log (written (meaning.files d1).log_bytes end (1 ∷ [])) → AreShort (meaning.files d2) → end + GROUP_HEAD_SIZE + length payload ≤ 2 ^ 64 - 1
    room_after is_put short =
        let all = added (end + GROUP_HEAD_SIZE + length payload) refl is_put in
        omega (arith, short.log_short, log_longer shape (groups ++ payload ∷ []) (meaning.files d2).log_bytes all.ready.log, all.ready.at_end)
