-- Whether the word is stored or not, the rest of the stores that the allowance still reaches is exactly this one or none.
use Rattle.std.proofs.Common.{refl, arith, sym, [], ◌∷◌}
use Rattle.stores.specs.Store.{store}
use Rattle.stores.proofs.Stores.{exec_made, exec_not_made}
use Rattle.stores.proofs.Budget.store.Goals as goal
use Rattle.stores.proofs.Budget.store.Goals.{then-self, else-self}

pub returns : goal.returns
returns c =
    elim c.if-self.branch [
      | then-self w ↦
          record {
            allowance = refl;
            count = refl;
            words = rw w.words-is (sym (exec_made (store c.args.at c.args.value) _ c.args.words.now (omega (arith, w.if-self.true))));
          }
      | else-self w ↦
          record {
            allowance = refl;
            count = refl;
            words = rw w.words-is (sym (exec_not_made (store c.args.at c.args.value ∷ []) _ c.args.words.now (omega (arith, w.if-self.false))));
          }
    ]
