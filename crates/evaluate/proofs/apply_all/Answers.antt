use Rattle.evaluate.proofs.apply_all.Goals as goal

pub returns : goal.returns
returns c = rw (c.min-end.ensures, c.identity-st.ensures) at c.apply_tags-st.ensures
