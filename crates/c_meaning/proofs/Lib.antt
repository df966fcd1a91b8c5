-- the numbers behind shifts and quotients that C leaves undefined
mod ShiftLaws
