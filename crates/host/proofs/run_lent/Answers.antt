-- Words and registers are loaded, the call runs on them, and the registers are stored.
use Rattle.std.proofs.Common.{refl, ap, ◌∙◌, ℕ, ℤ, pos, arith}
use Rattle.meaning.specs.Limits.{code_size}
use Rattle.wire.specs.Wire.{words_of, ints_of, written}
use Rattle.wire.proofs.Passing.{loaded_words}
use Rattle.wire.proofs.Ints.{loaded_ints, stored_ints}
use Rattle.host.specs.Surface.{register_count}
use Rattle.host.specs.Laws.{first_of_lem}
use Rattle.meaning.specs.Bytes.{Bytes}
use Rattle.reading_atoms.specs.Places.{bytes_of}
use Rattle.host.proofs.run_lent.Given.{Over}
use Rattle.host.proofs.run_lent.Goals.{Else-lent-gt-CODE_SIZE}
use Rattle.host.proofs.run_lent.Goals as goal

-- The registers' bytes as they were lent.
lent_bytes : (g : Over) (c : Else-lent-gt-CODE_SIZE g) → Bytes c.args.registers.now
lent_bytes g c = bytes_of _ c.type_inv.registers

pub returns : goal.returns
returns g c =
    let used = c.lent_words-used.result in
    let most = first_of_lem {A = ℤ} used register_count (pos 0) (omega (arith, c.lent_words-used.ensures)) ∙ c.lent_words-used.ensures in
    record {
      bytes = lent_bytes g (goal.at.returns g c).Else-lent-gt-CODE_SIZE;
      turned = λ h. absurd (omega (arith, h, c.if-lent-gt-CODE_SIZE.false));
      answers = λ fits. record {
        words = _;
        ints = _;
        work = _;
        answer = _;
        ints' = _;
        work' = _;
        called = c.run-answer.ensures;
        loads = c.load.ensures ∙ loaded_words _ _ ∙ ap (words_of c.args.code.now) (first_of_lem {A = ℕ} _ code_size 0 fits);
        spans = c.load-2.ensures ∙ loaded_ints _ _ ∙ ap (ints_of c.args.registers.now) most;
        room = refl;
        stores = c.store.ensures ∙ ap (λ t. written t c.args.registers.now) (stored_ints _);
        numbers = c.into-2.ensures;
      };
    }
