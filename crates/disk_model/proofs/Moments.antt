-- What each call of files in memory does to what a crash may leave.
use Rattle.std.proofs.Common.{◌≡◌, ◌⊎◌, inl, inr, ⊎_elim, ℕ, ◌+◌, ◌-◌, ◌^◌, ◌<◌, ◌≤◌, List, length, sym, ◌∙◌, ap, subst, arith, rules, filter, ◌↔◌, Result, Ok, Err, OnOk, OnErr, IsErr}
use Rattle.disk_model.specs.Types.{File, torn_file_same, Write, Broken, Sync, Elapses, SameImages, CanWrite, Files, TornFile, IsLeftBy, IsLeftAfter, is_by, IsImageAfter, first_files, memory_files, memory_crash_at, memory_meaning, PassesOver, Adds, Change, DatedChange, Memory}
use Rattle.seg_words.proofs.Lemmas.{cases_lt}
use Rattle.disk_model.proofs.Kept.{all_by, push_later, left_push, left_pop, is_seen}

abbrev pub Images : Memory → ℕ → Files → Type 0
Images m moment image = IsImageAfter (first_files m) m.changes.items moment image

-- now there is no call under way
pub now_is : (m : Memory) (image : Files) → memory_crash_at m m.clock image → Images m m.clock image
now_is m image (inl is) = is
now_is m image (inr later) = absurd (omega (arith, later.0))

-- two lists of changes that agree up to a moment leave the same until then
same_until : (first later : Files) (es fs : List DatedChange) (moment : ℕ) (image : Files) → later ≡ first → filter (is_by moment) fs ≡ filter (is_by moment) es → IsImageAfter later fs moment image ↔ IsImageAfter first es moment image
same_until first later es fs moment image same agree =
    let P : Files → List DatedChange → Type 0 = λ f l. IsLeftAfter f (λ (was : Files). was ≡ f) l image in (
      λ is. subst (λ (f : Files). P f (filter (is_by moment) es)) same (subst (λ (l : List DatedChange). P later l) agree is),
      λ is. subst (λ (l : List DatedChange). P later l) (sym agree) (subst (λ (f : Files). P f (filter (is_by moment) es)) (sym same) is),
    )

-- the changes so far stay as they are, up to the clock
pub record Extends (old new : Memory) : Type 0 where
  pub first : first_files new ≡ first_files old
  pub agree : (m : ℕ) → m ≤ old.clock → filter (is_by m) new.changes.items ≡ filter (is_by m) old.changes.items

agree_at : (old new : Memory) (m : ℕ) (image : Files) → Extends old new → m ≤ old.clock → Images new m image ↔ Images old m image
agree_at old new m image ext le = same_until (first_files old) (first_files new) old.changes.items new.changes.items m image ext.first (ext.agree m le)

-- one call more
elapses_next : (old new : Memory) → Extends old new → new.clock ≡ old.clock + 1 → old.clock < 2 ^ 64 - 1 → Elapses memory_meaning old new
elapses_next old new ext next lt = record { later = omega arith; tick = omega arith; past = past; during = during }
  where
    past : (m : ℕ) (image : Files) → m < old.clock → memory_crash_at new m image ↔ memory_crash_at old m image
    past m image lt =
        let here = agree_at old new m image ext (omega arith) in
        let after = agree_at old new (m + 1) image ext (omega arith) in (
          ⊎_elim (λ is. inl (here.0 is)) (λ is. inr (lt, after.0 is.1)),
          ⊎_elim (λ is. inl (here.1 is)) (λ is. inr (omega arith, after.1 is.1)),
        )

    during : (image : Files) → memory_crash_at new old.clock image ↔ (memory_crash_at old old.clock image ⊎ memory_crash_at new new.clock image)
    during image =
        let here = agree_at old new old.clock image ext (omega arith) in
        let back = λ (is : memory_crash_at new new.clock image). subst (λ (n : ℕ). Images new n image) next (now_is new image is) in (
          ⊎_elim (λ is. inl (inl (here.0 is))) (λ is. inr (inl (subst (λ (n : ℕ). Images new n image) (sym next) is.1))),
          ⊎_elim (λ is. inl (here.1 (now_is old image is))) (λ is. inr (omega arith, back is)),
        )

-- the clock at its end
elapses_end : (old new : Memory) → Extends old new → new.clock ≡ old.clock → old.clock ≡ 2 ^ 64 - 1 → Elapses memory_meaning old new
elapses_end old new ext same end = record { later = omega arith; tick = omega arith; past = past; during = during }
  where
    past : (m : ℕ) (image : Files) → m < old.clock → memory_crash_at new m image ↔ memory_crash_at old m image
    past m image lt =
        let here = agree_at old new m image ext (omega arith) in
        let after = agree_at old new (m + 1) image ext (omega arith) in (
          ⊎_elim (λ is. inl (here.0 is)) (λ is. inr (lt, after.0 is.1)),
          ⊎_elim (λ is. inl (here.1 is)) (λ is. inr (omega arith, after.1 is.1)),
        )

    during : (image : Files) → memory_crash_at new old.clock image ↔ (memory_crash_at old old.clock image ⊎ memory_crash_at new new.clock image)
    during image =
        let here = agree_at old new old.clock image ext (omega arith) in (
          λ is. inr (subst (λ (n : ℕ). memory_crash_at new n image) (sym same) is),
          ⊎_elim (λ is. inl (here.1 (now_is old image is))) (λ is. subst (λ (n : ℕ). memory_crash_at new n image) same is),
        )

over_extends : (old new : Memory) → PassesOver old new → Extends old new
over_extends old new over = record { first = over.first; agree = λ m le. ap (filter (is_by m)) over.changes }

adds_extends : (old new : Memory) (change : Change) → Adds change old new → Extends old new
adds_extends old new change adds = record {
  first = adds.first;
  agree = λ m le. ap (filter (is_by m)) adds.changes ∙ push_later m old.changes.items (record { moment = old.clock + 1; change = change }) (omega arith);
}

pub elapses_over : (old new : Memory) → PassesOver old new → Elapses memory_meaning old new
elapses_over old new over = elim (cases_lt old.clock (2 ^ 64 - 1)) [
  | inl lt ↦ elapses_next old new (over_extends old new over) (omega (arith, over.tick)) lt
  | inr le ↦ elapses_end old new (over_extends old new over) (omega (arith, over.tick, over.in_time)) (omega (arith, over.in_time))
]

pub elapses_added : (old new : Memory) (change : Change) → Adds change old new → old.clock < 2 ^ 64 - 1 → Elapses memory_meaning old new
elapses_added old new change adds lt = elapses_next old new (adds_extends old new change adds) adds.tick lt

-- now all changes count
Left : Memory → Files → Type 0
Left m image = IsLeftAfter (first_files m) (λ (was : Files). was ≡ first_files m) m.changes.items image

to_left : (m : Memory) (image : Files) → memory_crash_at m m.clock image → Left m image
unfolding Left
to_left m image is = subst (λ (l : List DatedChange). IsLeftAfter (first_files m) (λ (was : Files). was ≡ first_files m) l image) (all_by m.clock m.clock m.changes.items (omega arith) m.so_far) (now_is m image is)

from_left : (m : Memory) (image : Files) → Left m image → memory_crash_at m m.clock image
unfolding Left
from_left m image is = inl (subst (λ (l : List DatedChange). IsLeftAfter (first_files m) (λ (was : Files). was ≡ first_files m) l image) (sym (all_by m.clock m.clock m.changes.items (omega arith) m.so_far)) is)

-- nothing but the call itself
pub same_over : (old new : Memory) → PassesOver old new → SameImages memory_meaning old new
unfolding Left
same_over old new over image =
    let P : Files → List DatedChange → Type 0 = λ f l. IsLeftAfter f (λ (was : Files). was ≡ f) l image in (
      λ is. from_left old image (subst (λ (l : List DatedChange). P (first_files old) l) over.changes (subst (λ (f : Files). P f new.changes.items) over.first (to_left new image is))),
      λ is. from_left new image (subst (λ (f : Files). P f new.changes.items) (sym over.first) (subst (λ (l : List DatedChange). P (first_files old) l) (sym over.changes) (to_left old image is))),
    )

left_map : (change : Change) (seen : Files) (P Q : Files → Type 0) (image : Files) → ((was : Files) → P was → Q was) → IsLeftBy change seen P image → IsLeftBy change seen Q image
left_map (Write file offset bytes) seen P Q image f is = (is.0, f is.0 is.1, is.2)
left_map (Broken file offset n) seen P Q image f is = (is.0, f is.0 is.1, is.2)
left_map (Sync file) seen P Q image f is = (is.0, f is.0 is.1, is.2)

-- what a change makes of the images
pub now_added : (old new : Memory) (change : Change) → Adds change old new → (image : Files) → memory_crash_at new new.clock image ↔ IsLeftBy change (memory_files old) (λ (was : Files). memory_crash_at old old.clock was) image
unfolding Left
now_added old new change adds image =
    let e : DatedChange = record { moment = old.clock + 1; change = change } in
    let P : Files → List DatedChange → Type 0 = λ f l. IsLeftAfter f (λ (was : Files). was ≡ f) l image in
    let first = first_files old in
    let left : Files → Type 0 = IsLeftAfter first (λ (was : Files). was ≡ first) old.changes.items in (
      λ is.
          let there = subst (λ (l : List DatedChange). P first l) adds.changes (subst (λ (f : Files). P f new.changes.items) adds.first (to_left new image is)) in
          let by = left_pop first (λ (was : Files). was ≡ first) old.changes.items e image there in
          left_map change (memory_files old) left (λ (was : Files). memory_crash_at old old.clock was) image (from_left old) (subst (λ (s : Files). IsLeftBy change s left image) (sym (is_seen old)) by),
      λ is.
          let by = subst (λ (s : Files). IsLeftBy change s left image) (is_seen old) (left_map change (memory_files old) (λ (was : Files). memory_crash_at old old.clock was) left image (to_left old) is) in
          let there = left_push first (λ (was : Files). was ≡ first) old.changes.items e image by in
          from_left new image (subst (λ (f : Files). P f new.changes.items) (sym adds.first) (subst (λ (l : List DatedChange). P first l) (sym adds.changes) there)),
    )

pub on_ok : {T E : Type 0} {P Q : Type 0} (r : Result T E) → (P → Q) → OnOk r P → OnOk r Q
on_ok (Ok x) f is = f is
on_ok (Err e) f is = is

pub on_err : {T E : Type 0} {P Q : Type 0} (r : Result T E) → (P → Q) → OnErr r P → OnErr r Q
on_err (Ok x) f is = is
on_err (Err e) f is = f is

-- how a write ends
abbrev pub Ended : {T E : Type 0} → File → ℕ → List ℕ → Memory → Memory → Result T E → Type 0
Ended file offset bytes old new r = OnOk r (Adds (Write file offset bytes) old new) × OnErr r (PassesOver old new ⊎ (CanWrite old.clock offset (length bytes) × Adds (Broken file offset (length bytes)) old new))

module _ (file : File) (offset : ℕ) (bytes : List ℕ) (old new : Memory) where
  pub write_crash : {T E : Type 0} (r : Result T E) → Ended file offset bytes old new r → (image : Files) → memory_crash_at new new.clock image → (was : Files) × memory_crash_at old old.clock was × TornFile file offset (length bytes) was image
  write_crash (Ok x) (adds, _) image is = (now_added old new (Write file offset bytes) adds image).0 is
  write_crash (Err e) (_, inl over) image is = (image, (same_over old new over image).0 is, torn_file_same file offset (length bytes) image)
  write_crash (Err e) (_, inr broken) image is = (now_added old new (Broken file offset (length bytes)) broken.1 image).0 is

  pub write_kept : {T E : Type 0} (r : Result T E) → Ended file offset bytes old new r → (image : Files) → memory_crash_at old old.clock image → memory_crash_at new new.clock image
  write_kept (Ok x) (adds, _) image is = (now_added old new (Write file offset bytes) adds image).1 (image, is, torn_file_same file offset (length bytes) image)
  write_kept (Err e) (_, inl over) image is = (same_over old new over image).1 is
  write_kept (Err e) (_, inr broken) image is = (now_added old new (Broken file offset (length bytes)) broken.1 image).1 (image, is, torn_file_same file offset (length bytes) image)

  pub write_each : Adds (Write file offset bytes) old new → (was image : Files) → memory_crash_at old old.clock was → TornFile file offset (length bytes) was image → memory_crash_at new new.clock image
  write_each adds was image is torn = (now_added old new (Write file offset bytes) adds image).1 (was, is, torn)

  pub write_nothing : {T E : Type 0} (r : Result T E) → Ended file offset bytes old new r → OnOk r (CanWrite old.clock offset (length bytes)) → ¬ CanWrite old.clock offset (length bytes) → IsErr r × SameImages memory_meaning old new × (Unit {0} → memory_files new ≡ memory_files old)
  write_nothing (Ok x) ended can cannot = absurd (cannot can)
  write_nothing (Err e) (_, inl over) can cannot = (search rules, same_over old new over, λ _. over.files)
  write_nothing (Err e) (_, inr broken) can cannot = absurd (cannot broken.0)
