mod AllDue
