-- The trait's clauses, from what `MemFiles` says of the state after each call.
use Rattle.std.proofs.Common.{◌≡◌, ℕ, ◌⊎◌, inl, inr, List, Option, Some, None, take, Result, Ok, Err, IfOk, OnOk, IsErrOf, refl, ap, ◌∙◌, arith, Bool, true, false, if◌then◌else◌, Vec, Global, MatchOption}
use Rattle.std.proofs.lemmas.Result.{on_ok_weaker}
use Rattle.std.specs.Option.{option_map}
use Rattle.hy_io.specs.declared.outside.FileError.{FileError}
use Rattle.hy_io.specs.declared.outside.FileError.TheVariants.{Failed, Memory}
use Rattle.hy_io.specs.Outside.{Gives}
use Rattle.hy_io.specs.Disk.{Disk, held, readable, fails_now}
use Rattle.hy_io.proofs.Told.{held-after_failed_read, rose-after_failed_read, none_fell-after_failed_read, same_writes-after_failed_read, same_reads-after_write, none_fell-after_write, rose-after_write, calm-after_write, changes-ok, changes-failed}
use Rattle.hy_io.proofs.mem_files.MemFilesFiles.TheImpl.Goals as goal

-- how a call ends
one_of_three : {T A B C : Type 0} (result : Result T FileError) → OnOk result A → (IsErrOf result Failed → B) → (IsErrOf result Memory → C) → A ⊎ (B ⊎ C)
one_of_three (Ok x) a b c = inl a
one_of_three (Err Failed) a b c = inr (inl (b refl))
one_of_three (Err Memory) a b c = inr (inr (c refl))

-- at Ok, from two facts that hold there
both : {T A B P : Type 0} (result : Result T FileError) → OnOk result A → OnOk result B → (A → B → P) → OnOk result P
both (Ok x) a b f = f a b
both (Err e) a b f = tt

-- what is read, by what could be read
reads_what_is_held : (disk : Disk) (name : List ℕ) (max : ℕ) (bytes : List ℕ) → option_map (take max) (readable disk name) ≡ Some bytes → Gives (Some (held disk)) name max bytes
reads_what_is_held disk name max bytes e = by_test (fails_now disk) (held disk name) e
  where
    by_test : (fails : Bool) (o : Option (List ℕ)) → option_map (take max) (if fails then None else o) ≡ Some bytes → MatchOption o ⊥ (λ h. bytes ≡ take max h)
    by_test true o e = absurd (cc)
    by_test false None e = absurd (cc)
    by_test false (Some h) e = cc

given : (disk : Disk) (name : List ℕ) (max : ℕ) (result : Result (Vec ℕ Global) FileError) → IfOk result (λ bytes. option_map (take max) (readable disk name) ≡ Some bytes.items) → IfOk result (λ bytes. Gives (Some (held disk)) name max bytes.items)
given disk name max (Ok bytes) e = reads_what_is_held disk name max bytes.items e
given disk name max (Err e) _ = tt

pub read-tells : goal.read-tells
read-tells c =
    let old = c.args.self.now in
    let name = c.args.name.now in
    let ended = one_of_three c.result c.ensures.after c.ensures.after_failed c.ensures.memory in record {
      bytes = given old name c.args.max c.result c.ensures.ok;
      bound = c.ensures.bound;
      store = elim ended [ inl ok ↦ ap (λ d. Some (held d)) ok | inr (inl failed) ↦ ap Some (ap held failed ∙ held-after_failed_read old name) | inr (inr memory) ↦ ap (λ d. Some (held d)) memory ];
      cause = λ failed. rw (c.ensures.after_failed failed) (rose-after_failed_read old name);
      reads = λ q. elim ended [ inl ok ↦ rw ok (omega arith) | inr (inl failed) ↦ rw failed (none_fell-after_failed_read old name q) | inr (inr memory) ↦ rw memory (omega arith) ];
      writes = λ q. elim ended [ inl ok ↦ rw ok refl | inr (inl failed) ↦ rw failed (same_writes-after_failed_read old name q) | inr (inr memory) ↦ rw memory refl ];
      calm = on_ok_weaker c.result (λ ok q. rw ok refl) c.ensures.after;
    }

pub write-tells : goal.write-tells
write-tells c =
    let old = c.args.self.now in
    let name = c.args.name.now in
    let bytes = c.args.bytes.now in
    let ended = one_of_three c.result c.ensures.after c.ensures.after_failed c.ensures.memory in record {
      ok = both c.result c.ensures.ok c.ensures.after (λ calm ok. rw ok (changes-ok old name bytes calm));
      failed = λ failed. rw (c.ensures.after_failed failed) (changes-failed old name bytes (c.ensures.failed failed));
      memory = λ memory. ap (λ d. Some (held d)) (c.ensures.memory memory);
      cause = λ failed. rw (c.ensures.after_failed failed) (rose-after_write old name bytes (c.ensures.failed failed));
      writes = λ q. elim ended [ inl ok ↦ rw ok (none_fell-after_write old name bytes q) | inr (inl failed) ↦ rw failed (none_fell-after_write old name bytes q) | inr (inr memory) ↦ rw memory (omega arith) ];
      reads = λ q. elim ended [ inl ok ↦ rw ok (same_reads-after_write old name bytes q) | inr (inl failed) ↦ rw failed (same_reads-after_write old name bytes q) | inr (inr memory) ↦ rw memory refl ];
      calm = both c.result c.ensures.ok c.ensures.after (λ calm ok q. rw ok (calm-after_write old name bytes calm q));
    }
