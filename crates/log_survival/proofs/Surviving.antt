-- How what survives goes on.
use Rattle.std.proofs.Common.{◌≡◌, inl, inr, ℕ, ◌<◌, ◌≤◌, Bool, true, false, List, [], ◌∷◌, ◌++◌, length, refl, sym, ◌∙◌, ap, subst, arith, length-append, nat_le, if◌then◌else◌, take_all, le-leb}
use Rattle.seg_words.proofs.Lemmas.{take-append-le, cases_lt, nat_tests}
use Rattle.seg_words.specs.Types.{Shape}
use Rattle.disk_model.specs.Types.{Files, Meaning, Now, Leaves, Untouched, OnlyFile}
use Rattle.disk_model.specs.declared.disk.File.TheVariants.{Log}
use Rattle.disk_model.proofs.Lemmas.{always_run, always_same}
use Rattle.log_frame.specs.Types.{IsLog, WithOrWithout, IsReady}
use Rattle.log_survival.specs.Survives.{needed_by, HasGroups, Survives, AreMade}
use Rattle.log_survival.specs.declared.acknowledged.Acknowledged.{Acknowledged}

-- a log of all the groups
all_of : (shape : Shape) (groups : List (List ℕ)) (needed : ℕ) (image : Files) → needed ≤ length groups → IsLog shape groups image.log_bytes → HasGroups shape groups needed image
all_of shape groups needed image le log = record {
  count = length groups;
  within = omega arith;
  enough = le;
  log = subst (λ (l : List (List ℕ)). IsLog shape l image.log_bytes) (sym (take_all (length groups) groups (omega arith))) log;
}

-- one group more, which need not be there
one_more : (shape : Shape) (groups : List (List ℕ)) (payload : List ℕ) (needed : ℕ) (image : Files) → HasGroups shape groups needed image → HasGroups shape (groups ++ payload ∷ []) needed image
one_more shape groups payload needed image has = record {
  count = has.count;
  within = omega (arith, has.within, length-append groups (payload ∷ []));
  enough = has.enough;
  log = subst (λ (l : List (List ℕ)). IsLog shape l image.log_bytes) (sym (take-append-le has.count groups (payload ∷ []) has.within)) has.log;
}

-- an image of a call that adds a group
with_or_without : (shape : Shape) (groups : List (List ℕ)) (payload : List ℕ) (needed : ℕ) (image : Files) → needed ≤ length groups → WithOrWithout shape groups payload image.log_bytes → HasGroups shape (groups ++ payload ∷ []) needed image
with_or_without shape groups payload needed image le (inl log) = one_more shape groups payload needed image (all_of shape groups needed image le log)
with_or_without shape groups payload needed image le (inr log) = all_of shape (groups ++ payload ∷ []) needed image (omega (arith, le, length-append groups (payload ∷ []))) log

module _ {D : Type 0} (meaning : Meaning D) where
  -- now a crash leaves all the groups
  pub here : (disk : D) (shape : Shape) (groups : List (List ℕ)) (end needed : ℕ) (image : Files) → IsReady meaning disk shape groups end → needed ≤ length groups → Now meaning disk image → HasGroups shape groups needed image
  here disk shape groups end needed image ready le is = all_of shape groups needed image le (subst (IsLog shape groups) (sym (ready.settled.durable image is)) ready.log)

  pub begun : (disk : D) (shape : Shape) (groups : List (List ℕ)) (end : ℕ) → IsReady meaning disk shape groups end → Survives meaning (meaning.clock disk) shape groups [] disk
  begun disk shape groups end ready m image from to is =
      let now : m ≡ meaning.clock disk = omega (arith, from, to) in
      here disk shape groups end 0 image ready (omega arith) (subst (λ (n : ℕ). meaning.crash_at disk n image) now is)

  pub none_made : (groups : List (List ℕ)) (clock : ℕ) → AreMade groups clock []
  none_made groups clock = record { there = λ m. omega arith; by_now = λ m le. refl }

  module _ (since : ℕ) (shape : Shape) (groups : List (List ℕ)) (acknowledged : List Acknowledged) where
    pub appended : (old new : D) (payload : List ℕ) → AreMade groups (meaning.clock old) acknowledged → Survives meaning since shape groups acknowledged old
        → Leaves meaning old new (OnlyFile meaning old Log (WithOrWithout shape groups payload)) → Survives meaning since shape (groups ++ payload ∷ []) acknowledged new
    appended old new payload made so_far leaves =
        let P : ℕ → Files → Type 0 = λ m image. HasGroups shape (groups ++ payload ∷ []) (needed_by acknowledged m) image in
        always_run meaning since old new P (OnlyFile meaning old Log (WithOrWithout shape groups payload))
        (λ m image from to is. one_more shape groups payload (needed_by acknowledged m) image (so_far m image from to is))
        leaves
        (λ m image le is. with_or_without shape groups payload (needed_by acknowledged m) image (made.there m) is.holds)

    pub made_later : (old new : ℕ) (more : List (List ℕ)) → old ≤ new → AreMade groups old acknowledged → AreMade (groups ++ more) new acknowledged
    made_later old new more le made = record {
      there = λ m. omega (arith, made.there m, length-append groups more);
      by_now = λ m later. made.by_now m (omega (arith, le, later)) ∙ sym (made.by_now new le);
    }

    pub still_made : (old new : ℕ) → old ≤ new → AreMade groups old acknowledged → AreMade groups new acknowledged
    still_made old new le made = record { there = made.there; by_now = λ m later. made.by_now m (omega (arith, le, later)) ∙ sym (made.by_now new le) }

    pub looked_at : (old new : D) → since ≤ meaning.clock old → AreMade groups (meaning.clock old) acknowledged → Survives meaning since shape groups acknowledged old → Untouched meaning old new → Survives meaning since shape groups acknowledged new
    looked_at old new began made so_far untouched =
        let P : ℕ → Files → Type 0 = λ m image. HasGroups shape groups (needed_by acknowledged m) image in
        always_same meaning since old new P began so_far untouched.leaves (λ m image le has. subst (λ (n : ℕ). HasGroups shape groups n image) (sym (made.by_now m le)) has)

    -- all groups are acknowledged now
    module _ (disk : D) (end : ℕ) (a : Acknowledged) (moment : a.moment ≡ meaning.clock disk) (size : a.groups ≡ length groups) where
      needed_now : (m : ℕ) → meaning.clock disk ≤ m → needed_by (a ∷ acknowledged) m ≡ a.groups
      needed_now m le = let test : nat_le a.moment m ≡ true = le-leb a.moment m (omega (arith, moment, le)) in ap (λ (b : Bool). if b then a.groups else needed_by acknowledged m) test

      needed_before : (m : ℕ) → m < meaning.clock disk → needed_by (a ∷ acknowledged) m ≡ needed_by acknowledged m
      needed_before m lt = let test : nat_le a.moment m ≡ false = grind (arith, nat_tests, moment, lt) in ap (λ (b : Bool). if b then a.groups else needed_by acknowledged m) test

      pub acknowledged_now : IsReady meaning disk shape groups end → Survives meaning since shape groups acknowledged disk → Survives meaning since shape groups (a ∷ acknowledged) disk
      acknowledged_now ready so_far m image from to is = elim (cases_lt m (meaning.clock disk)) [
        | inl lt ↦ subst (λ (n : ℕ). HasGroups shape groups n image) (sym (needed_before m lt)) (so_far m image from to is)
        | inr ge ↦ (
            let now : m ≡ meaning.clock disk = omega (arith, ge, to) in
            let le : needed_by (a ∷ acknowledged) m ≤ length groups = omega (arith, needed_now m ge, size) in
            here disk shape groups end (needed_by (a ∷ acknowledged) m) image ready le (subst (λ (n : ℕ). meaning.crash_at disk n image) now is)
            )
      ]

      pub all_made : AreMade groups (meaning.clock disk) acknowledged → AreMade groups (meaning.clock disk) (a ∷ acknowledged)
      all_made made = record {
        there = λ m. elim (cases_lt m (meaning.clock disk)) [
          | inl lt ↦ omega (arith, needed_before m lt, made.there m)
          | inr ge ↦ omega (arith, needed_now m ge, size)
        ];
        by_now = λ m le. needed_now m le ∙ sym (needed_now (meaning.clock disk) (omega arith));
      }
