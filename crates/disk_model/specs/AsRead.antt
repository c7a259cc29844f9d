-- Files in memory as they read are one of their images.
use Rattle.std.specs.Prelude.{◌≡◌, ℕ, ◌+◌, ◌-◌, min, List, [], ◌∷◌, ◌++◌, length, take, drop, replicate, filter, Bool, true, false, refl}
use Rattle.seg_words.specs.Types.{list_all}
use Rattle.std.proofs.Common.{sym, ◌∙◌, ap, subst, arith, length-append, append_assoc, ◌&&◌, inl, take_at, drop_at, length-take, length-drop}
use Rattle.seg_words.proofs.Lemmas.{take_min, length-replicate}
use Rattle.disk_model.specs.declared.disk.File.{File}
use Rattle.disk_model.specs.declared.disk.File.TheVariants.{Data, Log}
use Rattle.disk_model.specs.declared.memory.Change.{Change}
use Rattle.disk_model.specs.declared.memory.Change.TheVariants.{Write, Broken, Sync}
use Rattle.disk_model.specs.declared.memory.DatedChange.{DatedChange}
use Rattle.disk_model.specs.declared.memory.Memory.{Memory}
use Rattle.disk_model.specs.Files.{Files, content, put, written, Torn, TornFile}
use Rattle.disk_model.specs.History.{both, seen_step, seen_after, IsLeftBy, IsLeftAfter, is_by}
use Rattle.disk_model.specs.Memory.{first_files, memory_files, memory_crash_at}

-- a write that left all as it was
pub torn_same : (at n : ℕ) (bytes : List ℕ) → Torn at n bytes bytes
torn_same at n bytes = record { before = take_min at bytes; after = refl; no_shorter = omega arith; no_longer = omega arith }

-- a write that was done
module _ (old bytes : List ℕ) (at : ℕ) where
  length-front : length (take at old ++ replicate (at - length old) 0) ≡ at
  length-front = omega (arith, length-append (take at old) (replicate (at - length old) 0), length-take at old, length-replicate {A = ℕ} (at - length old) 0)

  pub length-done : length (take at old ++ replicate (at - length old) 0 ++ bytes) ≡ at + length bytes
  length-done = omega (arith, length-append (take at old ++ replicate (at - length old) 0) bytes, length-front)

  pub length-written : length (written old at bytes) ≡ at + length bytes + (length old - (at + length bytes))
  length-written = omega (arith, length-append (take at old ++ replicate (at - length old) 0 ++ bytes) (drop (at + length bytes) old), length-done, length-drop (at + length bytes) old)

  written_split : written old at bytes ≡ take at old ++ (replicate (at - length old) 0 ++ (bytes ++ drop (at + length bytes) old))
  written_split = simp append_assoc

  pub torn_written : Torn at (length bytes) old (written old at bytes)
  torn_written = record {
    before = ap (λ (l : List ℕ). take (min at (length old)) l) written_split ∙ take_at (take at old) _ (min at (length old)) (length-take at old);
    after = drop_at (take at old ++ replicate (at - length old) 0 ++ bytes) (drop (at + length bytes) old) (at + length bytes) length-done;
    no_shorter = omega (arith, length-written);
    no_longer = omega (arith, length-written);
  }

put_content : (file : File) (files : Files) → files ≡ put file (content file files) files
put_content Data files = refl
put_content Log files = refl

content_put : (file : File) (bytes : List ℕ) (files : Files) → content file (put file bytes files) ≡ bytes
content_put Data bytes files = refl
content_put Log bytes files = refl

pub torn_file_same : (file : File) (at n : ℕ) (files : Files) → TornFile file at n files files
torn_file_same file at n files = record { torn = torn_same at n (content file files); other = put_content file files }

pub torn_file_written : (file : File) (at : ℕ) (bytes : List ℕ) (files : Files) → TornFile file at (length bytes) files (put file (written (content file files) at bytes) files)
torn_file_written file at bytes files = record {
  torn = subst (λ (l : List ℕ). Torn at (length bytes) (content file files) l) (sym (content_put file _ files)) (torn_written (content file files) bytes at);
  other = ap (λ (l : List ℕ). put file l files) (sym (content_put file _ files));
}

-- what a read gives stays an image with each change
step_read : (change : Change) (seen : Files) (left : Files → Type 0) → left seen → IsLeftBy change seen left (seen_step change seen)
step_read (Write file offset bytes) seen left is = (seen, is, torn_file_written file offset bytes seen)
step_read (Broken file offset n) seen left is = (seen, is, torn_file_same file offset n seen)
step_read (Sync file) seen left is = (seen, is, put_content file seen)

pub after_read : (changes : List DatedChange) (seen : Files) (left : Files → Type 0) → left seen → IsLeftAfter seen left changes (seen_after seen changes)
after_read [] seen left is = is
after_read (e ∷ changes) seen left is = after_read changes (seen_step e.change seen) (IsLeftBy e.change seen left) (step_read e.change seen left is)

filter_all : (p : DatedChange → Bool) (es : List DatedChange) → list_all p es ≡ true → filter p es ≡ es
filter_all p [] all = refl
filter_all p (e ∷ es) all =
    let h = both_true (p e) (list_all p es) all in
    let rest = filter_all p es h.1 in
    grind (arith, h.0, rest)
  where
    both_true : (a b : Bool) → (a && b) ≡ true → (a ≡ true) × (b ≡ true)
    both_true true b h = (refl, h)
    both_true false b h = absurd cc

pub memory_as_read : (m : Memory) → memory_crash_at m m.clock (memory_files m)
memory_as_read m =
    let all = filter_all (is_by m.clock) m.changes.items m.so_far in
    let is : memory_files m ≡ seen_after (first_files m) m.changes.items = ap (λ (x : List ℕ). both x m.log_bytes.items) m.data_is ∙ ap (λ (y : List ℕ). both (seen_after (first_files m) m.changes.items).data_bytes y) m.log_is in
    inl (subst (λ (es : List DatedChange). IsLeftAfter (first_files m) (λ (was : Files). was ≡ first_files m) es (memory_files m)) (sym all)
    (subst (λ (f : Files). IsLeftAfter (first_files m) (λ (was : Files). was ≡ first_files m) m.changes.items f) (sym is)
    (after_read m.changes.items (first_files m) (λ (was : Files). was ≡ first_files m) refl)))
