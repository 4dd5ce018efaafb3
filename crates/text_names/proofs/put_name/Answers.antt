-- A name is put where the search for it ends: its slot is written, and its number there.
use Rattle.text_names.proofs.Table.{put_none, put_some, put_room}
use Rattle.text_names.proofs.put_name.Goals as goal

pub returns-in_default : goal.returns-in_default
returns-in_default c = put_none _ _ _ _ c.seek.ensures _ c.in_default.is

pub bounds-table-place : goal.bounds-table-place
bounds-table-place c =
    let pre = c.requires in
    put_room _ _ _ _ c.seek.ensures _ c.in-Err.is _ c.put_slot.ensures pre.table_len pre.base_bound pre.n_bound pre.name_len_bound

pub returns-in-Err : goal.returns-in-Err
returns-in-Err c = put_some _ _ _ _ c.seek.ensures _ c.in-Err.is _ c.put_slot.ensures
