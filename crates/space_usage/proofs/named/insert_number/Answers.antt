use Rattle.space_usage.proofs.Naming.{set_told, new_told}
use Rattle.space_usage.proofs.named.insert_number.Goals as goal

pub returns-then-is_number_at : goal.returns-then-is_number_at
returns-then-is_number_at c = set_told c.args.txn c.args.number c.place_for-at.result c.is_number_at.result c.as_slice.result.now c.as_slice-2.result.now c.args.done.now.items c.as_slice.ensures.value c.as_slice-2.ensures.value c.place_for-at.ensures.value c.is_number_at.ensures c.if-is_number_at.true

pub returns-in-Ok : goal.returns-in-Ok
returns-in-Ok c = new_told c.args.txn c.args.number c.place_for-at.result c.is_number_at.result c.as_slice.result.now c.as_slice-2.result.now c.args.done.now.items c.insert.new.self.items c.as_slice.ensures.value c.as_slice-2.ensures.value c.place_for-at.ensures.value c.is_number_at.ensures c.if-is_number_at.false c.in-Ok.ensures.items
