-- What is found in the log of a store.
use Rattle.std.proofs.Common.{◌≡◌, inl, inr, ℕ, ◌+◌, List, [], ◌∷◌, ◌++◌, length, take, drop, refl, sym, ◌∙◌, ap, subst, Some, None, Result, Ok, Err}
use Rattle.seg_words.specs.Types.{Shape, FIRST_GATE}
use Rattle.disk_model.specs.Types.{Meaning, Untouched, IsSettled, Settles}
use Rattle.disk_model.specs.declared.disk.File.TheVariants.{Log}
use Rattle.disk_model.proofs.Lemmas.{settles_looked}
use Rattle.redo_log.specs.Lasting.{IsOpened}
use Rattle.log_frame.specs.Types.{frames, size_found, Walks, wrong, IsLog}
use Rattle.log_frame.specs.declared.fault.WrongByte.{WrongByte}
use Rattle.log_frame.specs.declared.log.TheConstants.{GROUP_HEAD_SIZE}
use Rattle.log_frame.proofs.Laws.{formatted, walks_from, walks_once}
use Rattle.redo_record.specs.declared.record.Record.{Record}
use Rattle.redo_log.specs.Kept.{Kept, HasList, Holds, spelled, AreSpelled}
use Rattle.redo_log.specs.Groups.{Between, Walked, BadPayload, IsWrong}
use Rattle.redo_log.specs.Found.{IsOpening, IsFound, AnswersInMemory, WalkBreaks}
use Rattle.redo_log.specs.declared.fault.LogFault.{LogFault}
use Rattle.redo_log.specs.declared.fault.LogFault.TheVariants.{DeviceFault, NotOpen, BadLog, NoMemory}
use Rattle.log_frame.specs.Ready.{IsReady}
use Rattle.redo_log.proofs.Acknowledging.{begins}
use Rattle.redo_log.proofs.Once.{holds_once, never_breaks}

ends_walk : (file : List ℕ) (from at : ℕ) (groups : List (List ℕ)) → Between file from groups at → size_found file at ≡ Ok None → Walks file from groups (Ok at)
ends_walk file from at [] between shut = (ap (size_found file) (sym between) ∙ shut, between)
ends_walk file from at (g ∷ groups) (found, same, rest) shut = (found, same, ends_walk file (from + GROUP_HEAD_SIZE + length g) at groups rest shut)

breaks_walk : (file : List ℕ) (from at : ℕ) (groups : List (List ℕ)) (byte : WrongByte) → Between file from groups at → size_found file at ≡ Err byte → Walks file from groups (Err byte)
breaks_walk file from at [] byte between is = ap (size_found file) (sym between) ∙ is
breaks_walk file from at (g ∷ groups) byte (found, same, rest) is = (found, same, breaks_walk file (from + GROUP_HEAD_SIZE + length g) at groups byte rest is)

-- the payload behind a gate of the walk is one of its groups, and so whole records
pub record IsGroup (payload : List ℕ) : Type 0 where
  pub records : List Record
  pub whole : payload ≡ spelled records
  pub spells : AreSpelled records

group_at : (file : List ℕ) (from at end size : ℕ) (groups after : List (List ℕ)) (R0 R : List Record) → Between file from groups at → Walks file from after (Ok end) → Holds after R0 R → size_found file at ≡ Ok (Some size) → IsGroup (take size (drop (at + GROUP_HEAD_SIZE) file))
group_at file from at end size [] [] R0 R between walks holds found = let clash : size_found file from ≡ Ok (Some size) = ap (size_found file) (sym between) ∙ found in absurd (cc (walks.0))
group_at file from at end size [] (p ∷ after) R0 R between walks holds found =
    let here : size_found file from ≡ Ok (Some size) = ap (size_found file) (sym between) ∙ found in
    let long : length p ≡ size = cc (walks.0) in
    let same : take size (drop (at + GROUP_HEAD_SIZE) file) ≡ p = ap (λ (n : ℕ). take size (drop (n + GROUP_HEAD_SIZE) file)) between ∙ ap (λ (n : ℕ). take n (drop (from + GROUP_HEAD_SIZE) file)) (sym long) ∙ walks.1 in
    record { records = holds.0; whole = same ∙ holds.1; spells = holds.2 }
group_at file from at end size (g ∷ groups) [] R0 R between walks holds found = absurd (cc (walks.0, between.0))
group_at file from at end size (g ∷ groups) (p ∷ after) R0 R between walks holds found =
    let long : length g ≡ length p = cc (walks.0, between.0) in
    group_at file (from + GROUP_HEAD_SIZE + length g) at end size groups after (holds.0 ++ R0) R between.2 (subst (λ (n : ℕ). Walks file (from + GROUP_HEAD_SIZE + n) after (Ok end)) (sym long) walks.2) holds.3 found

module _ (shape : Shape) (before after : List (List ℕ)) (file : List ℕ) (from : ℕ) (R0 R : List Record) (log : IsLog shape (before ++ after) file) (place : from ≡ FIRST_GATE + length (frames before)) (holds : Holds after R0 R) where
  end : ℕ
  end = FIRST_GATE + length (frames (before ++ after))

  whole_walk : Walks file from after (Ok end)
  unfolding end
  whole_walk = walks_from shape before after file from log place

  pub open_answers : (result : Result Kept LogFault) → IsOpening file from R0 result → AnswersInMemory result (λ l. HasList after R0 R l × (FIRST_GATE + length (frames (before ++ after)) ≡ l.end) × (l.waiting.bytes ≡ []))
  unfolding end
  open_answers (Ok l) is =
      let found = is.1 in
      let once = walks_once found.groups after file from (Ok l.end) (Ok end) (ends_walk file from l.end found.groups found.between found.shut) whole_walk in
      let list : HasList after R0 found.R l = subst (λ (g : List (List ℕ)). HasList g R0 found.R l) once.0 found.list in
      let stable : Holds after R0 found.R = subst (λ (g : List (List ℕ)). Holds g R0 found.R) once.0 found.holds in
      let same = holds_once after R0 found.R R stable holds in
      (subst (λ (S : List Record). HasList after R0 S l) same list, cc (once.1), found.none)
  open_answers (Err DeviceFault) is = tt
  open_answers (Err NotOpen) is = absurd (cc (is, formatted shape (before ++ after) file log))
  open_answers (Err (BadLog offset seen)) is = elim is.1.is [
    | inl byte ↦ (let once = walks_once is.1.walked.groups after file from (Err (wrong offset seen)) (Ok end) (breaks_walk file from is.1.at is.1.walked.groups (wrong offset seen) is.1.walked.between byte) whole_walk in absurd (cc (once.1)))
    | inr bad ↦ (
        let group = group_at file from is.1.at end bad.size is.1.walked.groups after R0 R is.1.walked.between whole_walk holds bad.framed in
        absurd (never_breaks (take bad.size (drop (is.1.at + GROUP_HEAD_SIZE) file)) group.records bad.place group.whole group.spells bad.breaks)
        )
  ]
  open_answers (Err NoMemory) is = tt

  -- the same with the disk
  pub opened : {D : Type 0} (meaning : Meaning D) (old new : D) (result : Result Kept LogFault) → IsSettled meaning old Log → Untouched meaning old new → (meaning.files old).log_bytes ≡ file → IsOpening file from R0 result
      → AnswersInMemory result (λ l. IsOpened meaning new shape (before ++ after) after R0 R l)
  opened meaning old new result settled look here is = at result (open_answers result is)
    where
      settles : Settles meaning old new Log (IsLog shape (before ++ after))
      settles = settles_looked meaning Log old new (IsLog shape (before ++ after)) settled look (subst (IsLog shape (before ++ after)) (sym here) log)

      at : (result : Result Kept LogFault) → AnswersInMemory result (λ l. HasList after R0 R l × (FIRST_GATE + length (frames (before ++ after)) ≡ l.end) × (l.waiting.bytes ≡ [])) → AnswersInMemory result (λ l. IsOpened meaning new shape (before ++ after) after R0 R l)
      at (Ok l) is =
          let ready : IsReady meaning new shape (before ++ after) l.end = record { settled = settles.settled; log = settles.holds; at_end = is.1 } in
          record { list = is.0; ready = ready; none = is.2; lasts = begins meaning shape (before ++ after) l.end new ready }
      at (Err DeviceFault) is = tt
      at (Err NotOpen) is = is
      at (Err (BadLog offset seen)) is = is
      at (Err NoMemory) is = tt
