-- Writes in a row and their sync, over plain disks.
use Rattle.std.proofs.Common.{◌≡◌, ℕ, ◌+◌, ◌≤◌, List, ◌++◌, length, sym, ◌∙◌, ap, subst, arith, length-append, Result, OnOk, OnErr, ◌↔◌}
use Rattle.disk_model.specs.Types.{Files, content, put, written, Torn, TornFile, Meaning, Now, Elapses, IsSettled, IsPut, torn_same, torn_written, File}
use Rattle.disk_model.proofs.Moments.{on_ok}
use Rattle.disk_model.proofs.OneFile.{So, so_started, so_write, so_sync, synced, only_weaker, content_put, put_put}
use Rattle.disk_model.proofs.Rows.{torn_wider, torn_then, written_then}

module _ {D : Type 0} (meaning : Meaning D) (d0 : D) (file : File) (at total : ℕ) where
  -- torn somewhere in so many bytes
  abbrev pub Within : ℕ → List ℕ → Type 0
  Within n = Torn at n (content file (meaning.files d0))

  pub first_write : (d1 : D) (n : ℕ) → n ≤ total → IsSettled meaning d0 file → Elapses meaning d0 d1 → ((image : Files) → Now meaning d1 image → (was : Files) × Now meaning d0 was × TornFile file at n was image)
      → So meaning d0 d1 file (Within total) (Within n)
  first_write d1 n le settled time crash =
      let old = content file (meaning.files d0) in
      let Was : List ℕ → Type 0 = λ (b : List ℕ). b ≡ old in
      let start = so_started meaning d0 file (Within total) Was settled.durable (λ b is. subst (Within total) (sym is) (torn_same at total old)) in
      so_write meaning d0 file (Within total) d0 d1 Was (Within n) at n start time crash (λ b d is t. subst (λ (l : List ℕ). Torn at n l d) is t) (λ b. torn_wider at n total old b le)

  pub next_write : (d1 d2 : D) (n m behind : ℕ) → n + m ≤ total → behind ≡ at + n → So meaning d0 d1 file (Within total) (Within n) → Elapses meaning d1 d2
      → ((image : Files) → Now meaning d2 image → (was : Files) × Now meaning d1 was × TornFile file behind m was image) → So meaning d0 d2 file (Within total) (Within (n + m))
  next_write d1 d2 n m behind le place so time crash =
      let old = content file (meaning.files d0) in
      so_write meaning d0 file (Within total) d1 d2 (Within n) (Within (n + m)) behind m so time crash (λ b d is t. torn_then at n m old b d is (subst (λ (i : ℕ). Torn i m b d) place t)) (λ b. torn_wider at (n + m) total old b le)

  -- what a read gives after one write more
  pub next_made : (d1 d2 : D) (before more : List ℕ) (behind : ℕ) → behind ≡ at + length before → meaning.files d1 ≡ put file (written (content file (meaning.files d0)) at before) (meaning.files d0)
      → meaning.files d2 ≡ put file (written (content file (meaning.files d1)) behind more) (meaning.files d1) → meaning.files d2 ≡ put file (written (content file (meaning.files d0)) at (before ++ more)) (meaning.files d0)
  next_made d1 d2 before more behind place made now =
      let old = content file (meaning.files d0) in
      let here : content file (meaning.files d1) ≡ written old at before = ap (content file) made ∙ content_put file (written old at before) (meaning.files d0) in
      now ∙ ap (λ (i : ℕ). put file (written (content file (meaning.files d1)) i more) (meaning.files d1)) place
      ∙ ap (λ (l : List ℕ). put file (written l (at + length before) more) (meaning.files d1)) here
      ∙ ap (λ (l : List ℕ). put file l (meaning.files d1)) (written_then old before more at)
      ∙ ap (put file (written old at (before ++ more))) made
      ∙ put_put file (written old at (before ++ more)) (written old at before) (meaning.files d0)

  module _ {T E : Type 0} (d1 d2 : D) (bytes : List ℕ) (r : Result T E) (so : So meaning d0 d1 file (Within total) (Within total))
      (made : meaning.files d1 ≡ put file (written (content file (meaning.files d0)) at bytes) (meaning.files d0))
      (durable : OnOk r ((image : Files) → Now meaning d2 image ↔ ((was : Files) × Now meaning d1 was × (image ≡ put file (content file (meaning.files d1)) was)))) where
    has : content file (meaning.files d1) ≡ written (content file (meaning.files d0)) at bytes
    has = ap (content file) made ∙ content_put file (written (content file (meaning.files d0)) at bytes) (meaning.files d0)

    -- where what a read gives is one of the images
    pub after_sync : Within total (content file (meaning.files d1)) → Elapses meaning d1 d2 → ((image : Files) → OnErr r (Now meaning d2 image → Now meaning d1 image)) → So meaning d0 d2 file (Within total) (Within total)
    after_sync here later failed = so_sync meaning d0 file (Within total) d1 d2 (Within total) r so later durable failed here (λ b is. is)

    pub is_put : meaning.told d2 → meaning.files d2 ≡ meaning.files d1 → OnOk r (IsPut meaning d0 d2 file (written (content file (meaning.files d0)) at bytes))
    is_put told same =
        let new = written (content file (meaning.files d0)) at bytes in
        let files = same ∙ made in
        on_ok r (λ all.
        let images = λ (image : Files) (is : Now meaning d2 image). only_weaker meaning d0 file (λ (b : List ℕ). b ≡ content file (meaning.files d1)) (λ (b : List ℕ). b ≡ new) (λ b h. h ∙ has) image (synced meaning d0 file d1 d2 (Within total) so.images all image is) in
        record {
          settled = record { told = told; durable = λ image is. (images image is).holds ∙ sym (ap (content file) files ∙ content_put file new (meaning.files d0)) };
          files = files;
          images = images;
        }) durable

-- what a read gives after three writes in a row is torn in their range
pub all_torn : {D : Type 0} (meaning : Meaning D) (d0 : D) (file : File) (at : ℕ) (front body back : List ℕ) (d3 : D) → meaning.files d3 ≡ put file (written (content file (meaning.files d0)) at (front ++ body ++ back)) (meaning.files d0)
    → Torn at (length front + length body + length back) (content file (meaning.files d0)) (content file (meaning.files d3))
all_torn meaning d0 file at front body back d3 made =
    let old = content file (meaning.files d0) in
    let bytes = front ++ body ++ back in
    let size : length bytes ≡ length front + length body + length back = omega (arith, length-append (front ++ body) back, length-append front body) in
    let here : content file (meaning.files d3) ≡ written old at bytes = ap (content file) made ∙ content_put file (written old at bytes) (meaning.files d0) in
    subst (λ (n : ℕ). Torn at n old (content file (meaning.files d3))) size (subst (Torn at (length bytes) old) (sym here) (torn_written old bytes at))
