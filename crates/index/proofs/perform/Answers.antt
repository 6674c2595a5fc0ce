-- `index::perform` meets its contract.
use mathlib.Core.Path.{refl}
use Rattle.index.proofs.Performs.{performed, list_performed, list_block_performed}
use Rattle.index.proofs.perform.Goals as goal

pub returns-in-Format : goal.returns-in-Format
returns-in-Format c = performed _ _ _ _ c.in-Format.is refl c.format.ensures

pub returns-in-Get : goal.returns-in-Get
returns-in-Get c = performed _ _ _ _ c.in-Get.is refl c.get.ensures

pub returns-in-Put : goal.returns-in-Put
returns-in-Put c = performed _ _ _ _ c.in-Put.is refl c.put.ensures

pub returns-in-Remove : goal.returns-in-Remove
returns-in-Remove c = performed _ _ _ _ c.in-Remove.is refl c.remove.ensures

pub returns-in-Merge : goal.returns-in-Merge
returns-in-Merge c = performed _ _ _ _ c.in-Merge.is refl c.merge.ensures

pub returns-in-Mend : goal.returns-in-Mend
returns-in-Mend c = performed _ _ _ _ c.in-Mend.is refl c.mend.ensures

pub returns-in-List : goal.returns-in-List
returns-in-List c = rw c.in-List.is (list_performed _ _ _ _ c.list.ensures)

pub returns-in-ListBlock : goal.returns-in-ListBlock
returns-in-ListBlock c =
    rw c.in-ListBlock.is (list_block_performed _ _ _ _ _ c.list_block.ensures)
